use Rattle.std.proofs.Common.{◌≡◌, length}
use Rattle.session_values.specs.Left.{pairs_left}
use Rattle.start_keys.specs.StartPairs as spec
use Rattle.start_keys.proofs.pairs.value_of.Given as goal

abbrev pub invariant-loop-candidate : goal.invariant-loop-candidate
invariant-loop-candidate l = spec.value_after l.found l.name (pairs_left l.pairs) ≡ spec.value_of l.name (pairs_left l.initial.pairs)

abbrev pub decreases-loop-candidate : goal.decreases-loop-candidate
decreases-loop-candidate l = length (pairs_left l.pairs)
