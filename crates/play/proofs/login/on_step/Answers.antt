use Rattle.std.proofs.Common.{sym, subst}
use Rattle.play.specs.Players.{IsAtPiece, IsDone, Steps}
use Rattle.play.proofs.Pieces.{piece_done}
use Rattle.play.proofs.Logins.{steps_piece}
use Rattle.play.proofs.Turns.{arrived_steps}
use Rattle.play.proofs.login.on_step.Goals as goal

pub follow-requires : goal.follow-requires
follow-requires c =
    let x = subst (λ s. Steps c.args.pool.now c.args.word c.args.client s c.args.login) c.in-Arrived.is c.requires in
    subst (λ h. Steps h c.args.word c.args.client c.on_bytes-step.result.1 c.on_bytes-step.new.self) (sym c.arrive.ensures) (arrived_steps c.args.pool.now c.args.word c.args.client c.in-Arrived.field-0 c.on_bytes-step.result.1 c.args.login c.on_bytes-step.new.self c.on_bytes-step.result.0 x c.on_bytes-step.ensures.means)

pub refuse-requires : goal.refuse-requires
refuse-requires c = subst (λ h. IsAtPiece h c.args.word c.args.client) (sym c.arrive.ensures) (steps_piece c.args.pool.now c.args.word c.args.client c.args.step c.args.login c.requires)

pub leave-requires : goal.leave-requires
leave-requires c = subst (λ h. IsDone h c.args.word c.args.client) (sym c.arrive.ensures) (piece_done c.args.pool.now c.args.word c.args.client (steps_piece c.args.pool.now c.args.word c.args.client c.args.step c.args.login c.requires))
