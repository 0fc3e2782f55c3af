use Rattle.std.proofs.Common.{◌≡◌, ◌++◌, drop, map}
use Rattle.std.specs.Arc.{arc_value}
use Rattle.session_values.specs.Extended.{at_progress}
use Rattle.session_state.specs.Portals.{progress_of}
use Rattle.session_state.proofs.kept.all_at_progress.Given as goal

abbrev pub invariant-loop-portal : goal.invariant-loop-portal
invariant-loop-portal l = map arc_value l.list.items ++ map (at_progress l.name (progress_of l.progress)) (map arc_value (drop l.portal-index l.portals)) ≡ map (at_progress l.name (progress_of l.progress)) (map arc_value l.portals)
