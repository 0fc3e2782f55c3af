use Rattle.std.proofs.Common.{◌≡◌, ◌++◌, drop}
use Rattle.std.specs.List.{flat_map}
use Rattle.console_core.specs.Views.{texts_of}
use Rattle.monitor_core.specs.Columns.{column}
use Rattle.monitor_core.proofs.writing.put_group.Given as goal

abbrev pub invariant-loop-name : goal.invariant-loop-name
invariant-loop-name l = l.text.items ++ flat_map (column l.kind) (texts_of (drop l.name-index l.names)) ≡ l.fn.text.items ++ flat_map (column l.kind) (texts_of l.names)
