use Rattle.std.proofs.Common.{◌≡◌, ◌++◌, ◌==◌, not, length}
use Rattle.std.specs.Prelude.{filter, map}
use Rattle.text_lines.specs.Lines.{trimmed}
use Rattle.ini_config.specs.Hosts.{listened}
use Rattle.ini_config.specs.Values.{names}
use Rattle.ini_config.proofs.name_lists.Names.read_listened.Given as goal

abbrev pub invariant-loop-part : goal.invariant-loop-part
invariant-loop-part l =
    l.list.items ++ map listened (filter (λ name. not (length name == 0)) (map trimmed l.part-iterator)) ≡ map listened (names l.fn.text)
