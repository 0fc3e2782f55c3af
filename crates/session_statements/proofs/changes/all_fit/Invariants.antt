use Rattle.std.proofs.Common.{◌≡◌, drop}
use Rattle.session_values.specs.Runs.{all_fit}
use Rattle.session_statements.proofs.changes.all_fit.Given as goal

abbrev pub invariant-loop-value : goal.invariant-loop-value
invariant-loop-value l = all_fit (drop l.value-index l.values) ≡ all_fit l.values
