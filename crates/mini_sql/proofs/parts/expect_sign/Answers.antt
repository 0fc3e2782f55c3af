use Rattle.mini_sql.proofs.Reading.{sign-err, passed-none, passed-other}
use Rattle.mini_sql.proofs.parts.expect_sign.Goals as goal

pub returns-in_err-token-clause-read : goal.returns-in_err-token-clause-read
returns-in_err-token-clause-read c = sign-err _ _ _ c.from_residual.ensures.0 (passed-none _ _ c.in_err-token.ensures.read)

pub returns-else-is_sign-clause-read : goal.returns-else-is_sign-clause-read
returns-else-is_sign-clause-read c = passed-other _ _ _ _ c.in_ok-token.ensures.read c.if-is_sign.ensures
