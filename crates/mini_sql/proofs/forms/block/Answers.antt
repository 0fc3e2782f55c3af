use Rattle.std.proofs.Common.{◌∙◌, sym}
use Rattle.mini_sql.specs.Statements.{block}
use Rattle.mini_sql.proofs.Steps.{reads-err, reads-to, pass-to, pass-no, end-to, end-no, either-first, either-second}
use Rattle.mini_sql.proofs.forms.block.Goals as goal

pub returns-then-is_end : goal.returns-then-is_end
unfolding block
returns-then-is_end c = either-first _ _ _ _ (end-to _ _ (sym c.if-is_end.ensures))

pub returns-in_err-rest : goal.returns-in_err-rest
unfolding block
returns-in_err-rest c = reads-err _ _ c.from_residual.ensures.0 (either-second _ _ _ (end-no _ _ (sym c.if-is_end.ensures)) ∙ pass-no _ _ _ c.in_err-rest.ensures)

pub returns : goal.returns
unfolding block
returns c = reads-to _ _ _ (either-second _ _ _ (end-no _ _ (sym c.if-is_end.ensures)) ∙ pass-to _ _ _ _ c.in_ok-rest.ensures) c.finish.ensures
