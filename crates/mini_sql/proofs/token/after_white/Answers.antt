use Rattle.std.proofs.Common.{arith, sym, ◌∙◌}
use Rattle.mini_sql.proofs.Lexing.{white-goes-on, after-shorter}
use Rattle.mini_sql.proofs.token.after_white.Goals as goal

pub loop-rest-preserved : goal.loop-rest-preserved
loop-rest-preserved c = (white-goes-on _ _ _ c.in-len1-up.len_at_least (sym c.is_white_byte.ensures ∙ c.if-not-is_white_byte.false) (omega arith) c.loop-rest.invariant.0, after-shorter _ _ _ c.loop-rest.invariant.1)
