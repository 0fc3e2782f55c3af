use Rattle.std.proofs.Common.{◌≡◌}
use Rattle.std.specs.List.{list_all}
use Rattle.message_view.specs.Left.{codes_left}
use Rattle.session_values.specs.Extended.{is_format}
use Rattle.session_machine.proofs.bind.are_formats.Given as goal

abbrev pub invariant-loop-code : goal.invariant-loop-code
invariant-loop-code l = list_all is_format (codes_left l.code-iterator) ≡ list_all is_format (codes_left l.fn.codes)
