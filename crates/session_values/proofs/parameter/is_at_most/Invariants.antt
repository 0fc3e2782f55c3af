use Rattle.std.proofs.Common.{◌≡◌, ◌≤◌, drop, true}
use Rattle.std.specs.List.{list_all}
use Rattle.mini_sql.specs.Words.{is_digit}
use Rattle.session_values.specs.Parameters.{digits_value, digits_value_from}
use Rattle.session_values.proofs.parameter.is_at_most.Given as goal

abbrev pub invariant-loop-digit : goal.invariant-loop-digit
invariant-loop-digit l = record {
  low : l.number ≤ l.high;
  so_far : digits_value_from l.number (drop l.digit-index l.digits) ≡ digits_value l.digits;
  digits : list_all is_digit (drop l.digit-index l.digits) ≡ true;
}
