use Rattle.std.proofs.Common.{◌≡◌, take, map}
use Rattle.std.specs.Arc.{arc_value}
use Rattle.session_values.specs.Parameters.{default}
use Rattle.session_values.proofs.values.default_list.Given as goal

abbrev pub invariant-loop-parameter : goal.invariant-loop-parameter
invariant-loop-parameter l = map arc_value l.list.items ≡ map (default l.version) (take l.parameter-index l.parameters)
