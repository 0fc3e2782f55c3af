use Rattle.std.proofs.Common.{◌≡◌, ◌≤◌, drop}
use Rattle.mini_sql.specs.Statements.{decimal_from}
use Rattle.mini_sql.proofs.parts.number_at.Given as goal

abbrev pub invariant-loop-digit : goal.invariant-loop-digit
invariant-loop-digit l = record {
  low : l.number ≤ 2147483647;
  so_far : decimal_from l.number (drop l.digit-index l.digits) ≡ decimal_from 0 l.digits;
}
