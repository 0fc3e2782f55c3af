use Rattle.std.proofs.Common.{subst}
use Rattle.std.specs.Arc.{arc_value}
use Rattle.play.specs.Players.{IsAt}
use Rattle.play.proofs.Pieces.{piece_done}
use Rattle.play.proofs.Logins.{logs_in_piece, waits_piece}
use Rattle.play.proofs.lease.last.Goals as goal

pub returns-in-LoggingIn-clause-done : goal.returns-in-LoggingIn-clause-done
returns-in-LoggingIn-clause-done c =
    let k = subst (λ s. IsAt c.args.pool.now c.args.word c.args.script.now.bytes s) c.in-LoggingIn.is c.requires in
    (k.0, piece_done c.args.pool.now c.args.word c.in-LoggingIn.client (logs_in_piece c.args.pool.now c.args.word c.in-LoggingIn.client c.in-LoggingIn.login k.1))

pub returns-in-Waiting-clause-done : goal.returns-in-Waiting-clause-done
returns-in-Waiting-clause-done c =
    let k = subst (λ s. IsAt c.args.pool.now c.args.word c.args.script.now.bytes s) c.in-Waiting.is c.requires in
    (k.0, piece_done c.args.pool.now c.args.word c.in-Waiting.client (waits_piece c.args.pool.now c.args.word c.in-Waiting.client (arc_value c.in-Waiting.key) k.1))
