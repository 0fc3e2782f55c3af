use Rattle.std.proofs.Common.{◌≡◌, length}
use Rattle.session_values.specs.Extended.{oids_of}
use Rattle.session_machine.proofs.describe.oids_of.Given as goal

abbrev pub invariant-loop-place : goal.invariant-loop-place
invariant-loop-place l = record {
  oids : l.list.items ≡ oids_of l.place l.oids;
  count : length l.list.items ≡ l.place;
}
