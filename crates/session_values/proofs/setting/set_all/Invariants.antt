use Rattle.std.proofs.Common.{◌≡◌, drop}
use Rattle.session_values.specs.State.{set_all}
use Rattle.session_values.proofs.setting.set_all.Given as goal

abbrev pub invariant-loop-parameter : goal.invariant-loop-parameter
invariant-loop-parameter l = set_all l.defaults l.values (drop l.parameter-index l.parameters) ≡ set_all l.defaults l.defaults l.parameters
