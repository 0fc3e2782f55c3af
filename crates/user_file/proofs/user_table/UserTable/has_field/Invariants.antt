use Rattle.std.proofs.Common.{◌≡◌, is_some}
use Rattle.user_file.specs.Fields.{unquoted}
use Rattle.user_file.specs.Users.{user_named}
use Rattle.user_file.proofs.user_table.UserTable.has_field.Given as goal

abbrev pub invariant-loop-user : goal.invariant-loop-user
invariant-loop-user l = is_some (user_named (unquoted l.fn.field) l.user-iterator) ≡ is_some (user_named (unquoted l.fn.field) l.fn.self)
