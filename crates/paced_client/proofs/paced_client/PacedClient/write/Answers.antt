use Rattle.paced_client.proofs.Pacing.{took_in}
use Rattle.paced_client.proofs.paced_client.PacedClient.write.Goals as goal

pub returns-in-Ok-clause-facts : goal.returns-in-Ok-clause-facts
returns-in-Ok-clause-facts c = took_in c.args.self.now c.keep.new.self c.min-count.result _ c.in-Ok.ensures.ok
