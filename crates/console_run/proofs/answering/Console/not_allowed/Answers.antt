use Rattle.console_run.proofs.Replying.{not_allowed_by}
use Rattle.console_run.proofs.answering.Console.not_allowed.Goals as goal

pub returns : goal.returns
returns g c = not_allowed_by c.reply_bytes.result c.told.result c.told.ensures c.reply_bytes.ensures
