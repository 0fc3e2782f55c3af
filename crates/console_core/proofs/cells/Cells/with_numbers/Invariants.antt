use Rattle.std.proofs.Common.{◌≡◌, ◌+◌, ◌++◌, ◌≤◌, decimal, drop, length, map}
use Rattle.console_core.specs.declared.cells.TheConstants.{WIDEST}
use Rattle.console_core.proofs.cells.Cells.with_numbers.Given as goal

abbrev pub invariant-loop-n : goal.invariant-loop-n
invariant-loop-n l = record {
  texts : l.cells ++ map decimal (drop l.n-index l.numbers) ≡ l.fn.self ++ map decimal l.numbers;
  room : length l.cells + length (drop l.n-index l.numbers) ≤ WIDEST;
}
