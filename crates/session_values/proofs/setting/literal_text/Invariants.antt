use Rattle.std.proofs.Common.{◌≡◌, ◌++◌}
use Rattle.mini_sql.specs.Meanings.{bytes_left, literal_value}
use Rattle.session_values.proofs.setting.literal_text.Given as goal

abbrev pub invariant-loop-byte : goal.invariant-loop-byte
invariant-loop-byte l = l.bytes.items ++ bytes_left l.byte-iterator ≡ literal_value l.literal
