use Rattle.link_run.proofs.Answering.{is_answered}
use Rattle.link_run.proofs.laws.reset_answers_answer.Goals as goal

pub returns : goal.returns
returns c = is_answered
