use Rattle.std.proofs.Common.{◌≡◌, ◌-◌, length, map, take, vec_len}
use Rattle.monitor_core.specs.Known.{user_row}
use Rattle.monitor_core.proofs.known.user_rows.Given as goal

abbrev pub invariant-users : goal.invariant-users
invariant-users l = l.rows.items ≡ map user_row (take (vec_len l.rows) l.users.rows)

abbrev pub decreases-users : goal.decreases-users
decreases-users l = length l.users.rows - vec_len l.rows
