use Rattle.std.proofs.Common.{◌≡◌, fold, length}
use Rattle.message_view.specs.Left.{pairs_left}
use Rattle.param_track.specs.StartKeys as spec
use Rattle.param_track.proofs.key.parameters_of.Given as goal

abbrev pub invariant-loop-name : goal.invariant-loop-name
invariant-loop-name l = fold (spec.put_if_followed (spec.names_of l.settings)) l.parameters.items (pairs_left l.pairs) ≡ spec.parameters_in (spec.names_of l.settings) (pairs_left l.initial.pairs)

abbrev pub decreases-loop-name : goal.decreases-loop-name
decreases-loop-name l = length (pairs_left l.pairs)
