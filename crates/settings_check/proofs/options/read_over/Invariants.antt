use Rattle.std.proofs.Common.{◌≡◌}
use Rattle.std.specs.Prelude.{filter, fold, map}
use Rattle.text_lines.specs.Lines.{lines, trimmed}
use Rattle.settings_check.specs.Options as spec
use Rattle.settings_check.proofs.options.read_over.Given as goal

abbrev pub invariant-loop-raw : goal.invariant-loop-raw
invariant-loop-raw l =
    fold spec.with_name l.names.items (map (λ o. o.0) (filter (λ o. spec.is_over l.uses_auth_file o.0 o.1) (spec.options_from l.section (map trimmed l.raw-iterator))))
    ≡ spec.read_over l.uses_auth_file (lines l.fn.text)
