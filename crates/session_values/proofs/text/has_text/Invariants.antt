use Rattle.std.proofs.Common.{◌≡◌, drop, map}
use Rattle.std.specs.Arc.{arc_value}
use Rattle.session_values.specs.State.{has_text}
use Rattle.session_values.proofs.text.has_text.Given as goal

abbrev pub invariant-loop-candidate : goal.invariant-loop-candidate
invariant-loop-candidate l = has_text (map arc_value (drop l.candidate-index l.texts)) l.text ≡ has_text (map arc_value l.texts) l.text
