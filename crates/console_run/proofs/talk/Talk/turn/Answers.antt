use Rattle.std.proofs.Common.{refl}
use Rattle.console_run.proofs.Talking.{written_turned}
use Rattle.console_run.proofs.talk.Talk.turn.Goals as goal

pub returns-then-not-is_empty : goal.returns-then-not-is_empty
returns-then-not-is_empty g c = written_turned _ _ _ _ _ c.write.result c.write.ensures refl
