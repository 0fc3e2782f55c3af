use Rattle.std.proofs.Common.{◌≡◌, ◌-◌, suc, length, map, take, vec_len}
use Rattle.lease_book.specs.Shown.{as_shown, shown_from}
use Rattle.lease_book.proofs.shown.all_shown.Given as goal

abbrev pub invariant-decisions : goal.invariant-decisions
invariant-decisions l = map as_shown l.shown.items ≡ shown_from (suc l.base) (take (vec_len l.shown) l.kept.items)

abbrev pub decreases-decisions : goal.decreases-decisions
decreases-decisions l = length l.kept.items - vec_len l.shown
