use Rattle.std.proofs.Common.{◌≡◌, drop}
use Rattle.session_values.specs.State.{has_text}
use Rattle.session_statements.proofs.changes.is_among.Given as goal

abbrev pub invariant-loop-candidate : goal.invariant-loop-candidate
invariant-loop-candidate l = has_text (drop l.candidate-index l.names) l.name ≡ has_text l.names l.name
