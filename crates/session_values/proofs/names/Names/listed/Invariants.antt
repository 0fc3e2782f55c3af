use Rattle.std.proofs.Common.{◌≡◌, ◌++◌}
use Rattle.mini_sql.specs.Meanings.{columns_left}
use Rattle.session_values.proofs.names.Names.listed.Given as goal

abbrev pub invariant-loop-column : goal.invariant-loop-column
invariant-loop-column l = l.list.items ++ columns_left l.column-iterator ≡ columns_left l.fn.columns
