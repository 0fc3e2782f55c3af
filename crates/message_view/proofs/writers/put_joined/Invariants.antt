use Rattle.std.proofs.Common.{◌≡◌, ◌+◌, ◌≤◌, ◌++◌, length, drop}
use Rattle.message_view.specs.Parts.{joined}
use Rattle.message_view.proofs.writers.put_joined.Given as goal

abbrev pub invariant-loop-part : goal.invariant-loop-part
invariant-loop-part l = record {
  written : l.out.items ++ joined (drop l.part-index l.parts) ≡ l.fn.out.items ++ joined l.parts;
  room : length (joined (drop l.part-index l.parts)) ≤ l.out.spare;
  left : l.fn.out.spare + length (joined (drop l.part-index l.parts)) ≤ l.out.spare + length (joined l.parts);
}
