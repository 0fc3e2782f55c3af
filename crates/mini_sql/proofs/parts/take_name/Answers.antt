use Rattle.std.proofs.Common.{sym}
use Rattle.mini_sql.proofs.Reading.{takes-err, taken-none, taken-token, taken-other}
use Rattle.mini_sql.proofs.parts.take_name.Goals as goal

pub returns-in_err-token-clause-name : goal.returns-in_err-token-clause-name
returns-in_err-token-clause-name c = takes-err _ _ _ c.from_residual.ensures.0 (taken-none _ _ c.in_err-token.ensures.read)

pub returns-in_err-token-clause-column : goal.returns-in_err-token-clause-column
returns-in_err-token-clause-column c = takes-err _ _ _ c.from_residual.ensures.0 (taken-none _ _ c.in_err-token.ensures.read)

pub returns-in-Some-clause-name : goal.returns-in-Some-clause-name
returns-in-Some-clause-name c = taken-token _ _ _ _ _ c.in_ok-token.ensures.read (sym c.in-Some.ensures.name)

pub returns-in-Some-clause-column : goal.returns-in-Some-clause-column
returns-in-Some-clause-column c = taken-token _ _ _ _ _ c.in_ok-token.ensures.read (sym c.in-Some.ensures.column)

pub returns-in-None-clause-name : goal.returns-in-None-clause-name
returns-in-None-clause-name c = taken-other _ _ _ _ c.in_ok-token.ensures.read (sym c.in-None.ensures.name)

pub returns-in-None-clause-column : goal.returns-in-None-clause-column
returns-in-None-clause-column c = taken-other _ _ _ _ c.in_ok-token.ensures.read (sym c.in-None.ensures.column)
