use Rattle.mini_sql.proofs.Reading.{follows-err, passed-none, passed-token, passed-other}
use Rattle.mini_sql.proofs.parts.expect_either.Goals as goal

pub returns-in_err-token : goal.returns-in_err-token
returns-in_err-token c = follows-err _ _ c.from_residual.ensures.0 (passed-none _ _ c.in_err-token.ensures.read)

pub returns-then-is_either : goal.returns-then-is_either
returns-then-is_either c = passed-token _ _ _ _ c.in_ok-token.ensures.read c.if-is_either.ensures

pub returns-else-is_either : goal.returns-else-is_either
returns-else-is_either c = passed-other _ _ _ _ c.in_ok-token.ensures.read c.if-is_either.ensures
