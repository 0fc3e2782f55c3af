use Rattle.std.proofs.Common.{◌≡◌, ◌+◌, ◌++◌, ◌≤◌, decimal, drop, length, map}
use Rattle.monitor_core.specs.declared.rows.TheConstants.{WIDEST}
use Rattle.monitor_core.proofs.rows.Row.with_numbers.Given as goal

abbrev pub invariant-loop-n : goal.invariant-loop-n
invariant-loop-n l = record {
  texts : l.row ++ map decimal (drop l.n-index l.numbers) ≡ l.fn.self ++ map decimal l.numbers;
  room : length l.row + length (drop l.n-index l.numbers) ≤ WIDEST;
}
