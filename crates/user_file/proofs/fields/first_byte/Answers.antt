use Rattle.user_file.proofs.Unquoted.{unquoted-empty, byte-plain, byte-last, byte-doubled}
use Rattle.user_file.proofs.fields.first_byte.Goals as goal

pub returns-in_default : goal.returns-in_default
returns-in_default c = unquoted-empty _ c.in_default.len_below

pub returns-then-byte-ne34 : goal.returns-then-byte-ne34
returns-then-byte-ne34 c = byte-plain _ c.in-len1-up.len_at_least c.if-byte-ne34.true

pub returns-in-empty : goal.returns-in-empty
returns-in-empty c = byte-last c.args.field.now c.in-len1-up.len_at_least c.in-empty.len_below

pub returns-in-len1-up-tail : goal.returns-in-len1-up-tail
returns-in-len1-up-tail c = byte-doubled c.args.field.now c.in-len1-up.len_at_least c.in-len1-up-tail.len_at_least c.if-byte-ne34.false
