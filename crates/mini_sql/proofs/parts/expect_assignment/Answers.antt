use Rattle.mini_sql.proofs.Reading.{follows-err, passed-none, passed-token, passed-other}
use Rattle.mini_sql.proofs.parts.expect_assignment.Goals as goal

pub returns-in_err-token : goal.returns-in_err-token
returns-in_err-token c = follows-err _ _ c.from_residual.ensures.0 (passed-none _ _ c.in_err-token.ensures.read)

pub returns-then-assigns : goal.returns-then-assigns
returns-then-assigns c = passed-token _ _ _ _ c.in_ok-token.ensures.read c.if-assigns.ensures

pub returns-else-assigns : goal.returns-else-assigns
returns-else-assigns c = passed-other _ _ _ _ c.in_ok-token.ensures.read c.if-assigns.ensures
