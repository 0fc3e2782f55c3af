use Rattle.std.proofs.Common.{◌≡◌, ◌++◌, drop, length, map}
use Rattle.message_view.specs.Parts.{formats_of, names_of}
use Rattle.console_core.specs.Views.{texts_of}
use Rattle.console_core.proofs.writing.text_columns.Given as goal

abbrev pub invariant-loop-name : goal.invariant-loop-name
invariant-loop-name l = record {
  names : names_of l.columns.items ++ texts_of (drop l.name-index l.names) ≡ texts_of l.names;
  formats : formats_of l.columns.items ++ map (λ name. 0) (texts_of (drop l.name-index l.names)) ≡ map (λ name. 0) (texts_of l.names);
  count : length l.columns.items ≡ l.name-index;
}
