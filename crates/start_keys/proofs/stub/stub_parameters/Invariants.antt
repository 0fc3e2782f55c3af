use Rattle.std.proofs.Common.{◌≡◌, fold, length}
use Rattle.session_values.specs.Left.{pairs_left}
use Rattle.start_keys.specs.StubKeys as spec
use Rattle.start_keys.proofs.stub.stub_parameters.Given as goal

abbrev pub invariant-loop-name : goal.invariant-loop-name
invariant-loop-name l = fold spec.put_parameter l.parameters.items (pairs_left l.pairs) ≡ spec.stub_parameters (pairs_left l.initial.pairs)

abbrev pub decreases-loop-name : goal.decreases-loop-name
decreases-loop-name l = length (pairs_left l.pairs)
