use Rattle.session_statements.proofs.Narrow.{narrow_reading}
use Rattle.session_statements.proofs.run.read_narrow.Goals as goal

pub returns-clause-narrow : goal.returns-clause-narrow
returns-clause-narrow c = narrow_reading c.statement_is_derived.ensures c.args.text.now c.read_statement.result c.read_statement.ensures
