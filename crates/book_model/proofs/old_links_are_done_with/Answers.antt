use Rattle.book_model.proofs.Reconnecting.{never_kept, never_lent}
use Rattle.book_model.proofs.old_links_are_done_with.Goals as goal

pub returns-clause-lent : goal.returns-clause-lent
returns-clause-lent c = never_lent

pub returns-clause-kept : goal.returns-clause-kept
returns-clause-kept c = never_kept
