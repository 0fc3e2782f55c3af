use Rattle.std.proofs.Common.{◌≡◌, ◌-◌, length, take, vec_len}
use Rattle.book_model.specs.Limits.{rows_in}
use Rattle.book_model.proofs.settings.rows_of.Given as goal

abbrev pub invariant-rows : goal.invariant-rows
invariant-rows l = l.listed.items ≡ rows_in l.settings.default_pool_size (take (vec_len l.listed) l.settings.rows)

abbrev pub decreases-rows : goal.decreases-rows
decreases-rows l = length l.settings.rows - vec_len l.listed
