use Rattle.std.proofs.Common.{◌≡◌, [], ◌∷◌, ◌++◌, drop}
use Rattle.std.specs.Prelude.{is_none, if◌then◌else◌}
use Rattle.std.specs.List.{flat_map}
use Rattle.text_lines.specs.Lines.{lines}
use Rattle.settings_check.specs.Options.{value_given}
use Rattle.settings_check.proofs.notices.unset.Given as goal

abbrev pub invariant-loop-key : goal.invariant-loop-key
invariant-loop-key l =
    l.said.items ++ flat_map (λ u. if is_none (value_given u.0.now (lines l.text)) then u.1.now ∷ [] else []) (drop l.key-index l.table)
    ≡ flat_map (λ u. if is_none (value_given u.0.now (lines l.text)) then u.1.now ∷ [] else []) l.table
