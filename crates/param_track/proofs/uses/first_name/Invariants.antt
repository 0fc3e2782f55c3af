use Rattle.std.proofs.Common.{◌≡◌, length}
use Rattle.message_view.specs.Left.{pairs_left}
use Rattle.param_track.specs.StartKeys as spec
use Rattle.param_track.proofs.uses.first_name.Given as goal

abbrev pub invariant-loop-name : goal.invariant-loop-name
invariant-loop-name l = spec.first_name (spec.names_of l.settings) l.wanted (pairs_left l.pairs) ≡ spec.first_name (spec.names_of l.settings) l.wanted (pairs_left l.initial.pairs)

abbrev pub decreases-loop-name : goal.decreases-loop-name
decreases-loop-name l = length (pairs_left l.pairs)
