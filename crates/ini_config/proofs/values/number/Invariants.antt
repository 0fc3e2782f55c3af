use Rattle.std.proofs.Common.{◌≡◌, ◌≤◌, drop}
use Rattle.std.specs.Prelude.{fold}
use Rattle.std.specs.Char.{is_ascii_digit}
use Rattle.std.specs.List.{list_all}
use Rattle.ini_config.specs.Values.{digits_value}
use Rattle.ini_config.proofs.Numbers.{shifted}
use Rattle.ini_config.proofs.values.number.Given as goal

abbrev pub invariant-loop-digit : goal.invariant-loop-digit
invariant-loop-digit l = record {
  bounded : l.total ≤ l.high;
  value : fold shifted l.total (drop l.digit-index l.text) ≡ digits_value l.text;
  digits : list_all is_ascii_digit (drop l.digit-index l.text) ≡ list_all is_ascii_digit l.text;
}
