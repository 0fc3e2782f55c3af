use Rattle.std.proofs.Common.{◌≡◌, ◌+◌, drop, length}
use Rattle.monitor_core.specs.Columns.{names_of}
use Rattle.monitor_core.specs.Views.{groups_of}
use Rattle.monitor_core.proofs.writing.width.Given as goal

abbrev pub invariant-loop-group : goal.invariant-loop-group
invariant-loop-group l = l.count + length (names_of (groups_of (drop l.group-index l.groups))) ≡ length (names_of (groups_of l.groups))
