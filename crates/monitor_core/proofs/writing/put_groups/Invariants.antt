use Rattle.std.proofs.Common.{◌≡◌, ◌++◌, drop}
use Rattle.std.specs.List.{flat_map}
use Rattle.monitor_core.specs.Columns.{group_text}
use Rattle.monitor_core.specs.Views.{groups_of}
use Rattle.monitor_core.proofs.writing.put_groups.Given as goal

abbrev pub invariant-loop-group : goal.invariant-loop-group
invariant-loop-group l = l.text.items ++ flat_map group_text (groups_of (drop l.group-index l.groups)) ≡ l.fn.text.items ++ flat_map group_text (groups_of l.groups)
