use Rattle.std.proofs.Common.{◌≡◌, bytes_eq}
use Rattle.std.specs.Prelude.{map}
use Rattle.std.specs.List.{find}
use Rattle.text_lines.specs.Lines.{lines, trimmed}
use Rattle.settings_check.specs.Options.{options, options_from}
use Rattle.settings_check.proofs.options.value_given.Given as goal

abbrev pub invariant-loop-raw : goal.invariant-loop-raw
invariant-loop-raw l =
    find (λ o. bytes_eq o.0 l.key) (options_from l.section (map trimmed l.raw-iterator)) ≡ find (λ o. bytes_eq o.0 l.key) (options (lines l.fn.text))
