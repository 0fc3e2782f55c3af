use Rattle.std.proofs.Common.{◌≡◌, bytes_eq}
use Rattle.user_file.specs.Fields.{bytes_left, unquoted}
use Rattle.user_file.proofs.fields.is_text_of.Given as goal

abbrev pub invariant-loop-byte : goal.invariant-loop-byte
invariant-loop-byte l = bytes_eq (bytes_left l.byte-iterator) l.rest ≡ bytes_eq (unquoted l.fn.field) l.fn.text
