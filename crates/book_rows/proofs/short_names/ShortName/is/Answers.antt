use Rattle.book_rows.proofs.ShortNames.{by_both}
use Rattle.book_rows.proofs.short_names.ShortName.is.Goals as goal

pub returns-then-self-other : goal.returns-then-self-other
returns-then-self-other c = λ left right x y. by_both left right _ _ _ _ _ _ _ c.self.view_is c.other.view_is c.if-self-other.true c.eq.ensures x y
