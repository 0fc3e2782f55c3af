use Rattle.std.proofs.Common.{◌≡◌, ◌++◌, length, take, drop}
use Rattle.message_view.specs.Parts.{formats_of as formats_in, names_of}
use Rattle.session_values.specs.Extended.{formats_from, formats_of}
use Rattle.session_statements.proofs.output.columns_of.Given as goal

abbrev pub invariant-loop-place : goal.invariant-loop-place
invariant-loop-place l = record {
  names : names_of l.columns.items ≡ take l.place l.names;
  formats : formats_in l.columns.items ++ formats_from l.place (drop l.place l.names) l.formats ≡ formats_of l.names l.formats;
  count : length l.columns.items ≡ l.place;
}
