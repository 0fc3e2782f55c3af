use Rattle.book_model.proofs.Keeping.{applied_keeps, empty_keeps, latest_is_lent, returned_keeps}
use Rattle.book_model.proofs.books_are_in_order.Goals as goal

pub returns-clause-empty : goal.returns-clause-empty
returns-clause-empty c = empty_keeps

pub returns-clause-events : goal.returns-clause-events
returns-clause-events c = applied_keeps

pub returns-clause-returns : goal.returns-clause-returns
returns-clause-returns c = returned_keeps

pub returns-clause-lends : goal.returns-clause-lends
returns-clause-lends c = latest_is_lent
