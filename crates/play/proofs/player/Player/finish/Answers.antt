use Rattle.play.proofs.Pieces.{finished}
use Rattle.play.proofs.player.Player.finish.Goals as goal

pub returns-clause-allowed : goal.returns-clause-allowed
returns-clause-allowed c = finished c.args.pool.now c.args.script.now c.args.self.now.word c.in_ok-client.client c.into_given.result.items c.requires.0 c.in_ok-client.ensures.done c.into_given.ensures
