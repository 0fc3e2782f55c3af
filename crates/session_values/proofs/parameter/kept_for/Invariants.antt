use Rattle.std.proofs.Common.{◌≡◌, drop, map}
use Rattle.session_values.specs.Parameters.{kept_for}
use Rattle.session_values.specs.Words.{texts_of}
use Rattle.session_values.proofs.parameter.kept_for.Given as goal

abbrev pub invariant-loop-word : goal.invariant-loop-word
invariant-loop-word l = kept_for (map texts_of (drop l.word-index l.words)) l.text ≡ kept_for (map texts_of l.words) l.text
