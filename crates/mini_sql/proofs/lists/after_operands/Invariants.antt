use Rattle.std.proofs.Common.{◌≡◌, length}
use Rattle.mini_sql.specs.Statements.{items, operand_of, phrase, read}
use Rattle.mini_sql.specs.Lists.{rest_of}
use Rattle.mini_sql.proofs.lists.after_operands.Given as goal

abbrev pub invariant-loop-after : goal.invariant-loop-after
invariant-loop-after l = rest_of (read (items operand_of) (phrase l.text)) ≡ rest_of (read (items operand_of) (phrase l.rest))

abbrev pub decreases-loop-after : goal.decreases-loop-after
decreases-loop-after l = length l.rest
