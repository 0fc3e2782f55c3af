use Rattle.std.proofs.Common.{◌≡◌, ◌≤◌, ◌-◌, length, drop}
use Rattle.mini_sql.specs.Tokens.{literal_length, further}
use Rattle.mini_sql.proofs.token.length_of_literal.Given as goal

abbrev pub invariant-loop-k : goal.invariant-loop-k
invariant-loop-k l = (l.done ≤ length l.text) × (literal_length l.text ≡ further l.done (literal_length (drop l.done l.text)))

abbrev pub decreases-loop-k : goal.decreases-loop-k
decreases-loop-k l = length l.text - l.done
