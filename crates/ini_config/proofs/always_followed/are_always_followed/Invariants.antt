use Rattle.std.proofs.Common.{◌≡◌, ◌==◌, not, length}
use Rattle.std.specs.Prelude.{filter, map}
use Rattle.std.specs.List.{list_all}
use Rattle.text_lines.specs.Lines.{trimmed}
use Rattle.ini_config.specs.OptionValues.{always_followed, has_folded}
use Rattle.ini_config.specs.Values.{names}
use Rattle.ini_config.proofs.always_followed.are_always_followed.Given as goal

abbrev pub invariant-loop-part : goal.invariant-loop-part
invariant-loop-part l =
    list_all (has_folded always_followed) (filter (λ name. not (length name == 0)) (map trimmed l.part-iterator))
    ≡ list_all (has_folded always_followed) (names l.fn.text)
