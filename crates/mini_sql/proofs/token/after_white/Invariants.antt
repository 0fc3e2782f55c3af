use Rattle.std.proofs.Common.{◌≡◌, ◌≤◌, length}
use Rattle.mini_sql.specs.Tokens.{tokens}
use Rattle.mini_sql.proofs.token.after_white.Given as goal

abbrev pub invariant-loop-rest : goal.invariant-loop-rest
invariant-loop-rest l = (tokens l.rest ≡ tokens l.text) × (length l.rest ≤ length l.text)

abbrev pub decreases-loop-rest : goal.decreases-loop-rest
decreases-loop-rest l = length l.rest
