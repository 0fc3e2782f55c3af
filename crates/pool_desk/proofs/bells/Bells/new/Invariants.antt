use Rattle.std.proofs.Common.{◌≡◌, vec_len, ◌≤◌}
use Rattle.std.specs.Prelude.{vec_capacity}
use Rattle.pool_desk.specs.declared.bells.TheConstants.{BELLS}
use Rattle.pool_desk.proofs.bells.Bells.new.Given as goal

abbrev pub invariant-loop : goal.invariant-loop
invariant-loop l = (vec_len l.bells ≡ l.counter) × (BELLS ≤ vec_capacity l.bells)
