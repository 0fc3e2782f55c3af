use Rattle.std.proofs.Common.{◌≡◌, ◌==◌, ◌||◌, not, length}
use Rattle.std.specs.Prelude.{filter, map}
use Rattle.std.specs.List.{list_all}
use Rattle.text_lines.specs.Lines.{trimmed}
use Rattle.ini_config.specs.Hosts.{is_listened}
use Rattle.ini_config.specs.Values.{names}
use Rattle.ini_config.proofs.hosts.are_listened.Given as goal

abbrev pub invariant-loop-part : goal.invariant-loop-part
invariant-loop-part l = record {
  all : list_all is_listened (filter (λ name. not (length name == 0)) (map trimmed l.part-iterator)) ≡ list_all is_listened (names l.fn.text);
  some : (l.count == 1 || not (length (filter (λ name. not (length name == 0)) (map trimmed l.part-iterator)) == 0)) ≡ not (length (names l.fn.text) == 0);
}
