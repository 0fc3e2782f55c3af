use Rattle.std.proofs.Common.{sym}
use Rattle.mini_sql.proofs.Steps.{end-to, end-no}
use Rattle.mini_sql.proofs.forms.finish.Goals as goal

pub returns-then-is_end : goal.returns-then-is_end
returns-then-is_end c = end-to _ _ (sym c.if-is_end.ensures)

pub returns-else-is_end : goal.returns-else-is_end
returns-else-is_end c = end-no _ _ (sym c.if-is_end.ensures)
