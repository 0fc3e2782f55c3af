use Rattle.std.proofs.Common.{◌≡◌, ◌++◌, Some, drop, length, map}
use Rattle.message_view.specs.Parts.{row_of}
use Rattle.monitor_core.proofs.writing.values_of.Given as goal

abbrev pub invariant-loop-text : goal.invariant-loop-text
invariant-loop-text l = record {
  values : row_of l.values.items ++ map Some (drop l.text-index l.texts) ≡ map Some l.texts;
  width : length l.values.items ≡ l.text-index;
}
