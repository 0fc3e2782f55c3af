use Rattle.std.proofs.Common.{sym}
use Rattle.mini_sql.proofs.Reading.{takes-err, taken-none, taken-token, taken-other}
use Rattle.mini_sql.proofs.parts.take_count.Goals as goal

pub returns-in_err-token : goal.returns-in_err-token
returns-in_err-token c = takes-err _ _ _ c.from_residual.ensures.0 (taken-none _ _ c.in_err-token.ensures.read)

pub returns-in-Some : goal.returns-in-Some
returns-in-Some c = taken-token _ _ _ _ _ c.in_ok-token.ensures.read (sym c.in-Some.ensures)

pub returns-in-None : goal.returns-in-None
returns-in-None c = taken-other _ _ _ _ c.in_ok-token.ensures.read (sym c.in-None.ensures)
