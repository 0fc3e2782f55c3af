use Rattle.std.proofs.Common.{◌≡◌, length}
use Rattle.message_view.specs.Reading.{rest_of, ended_at, pair_at}
use Rattle.message_view.proofs.startup_view.skip_pairs.Given as goal

abbrev pub invariant-loop-pair : goal.invariant-loop-pair
invariant-loop-pair l = rest_of (ended_at pair_at l.rest) ≡ rest_of (ended_at pair_at l.fn.bytes)

abbrev pub decreases-loop-pair : goal.decreases-loop-pair
decreases-loop-pair l = length l.rest
