use Rattle.std.proofs.Common.{refl, sym, subst}
use Rattle.frame_view.specs.Frames.{AreBytes}
use Rattle.play.specs.Players.{IsAtPiece, IsDone}
use Rattle.play.proofs.Leases.{lease_done, lease_goes, lease_input, lease_piece, lease_stops}
use Rattle.play.proofs.Tables.{same_at}
use Rattle.play.proofs.lease.serve.Goals.{in-Refuse+in_ok-client-in-Refuse+in_ok-stage-in-Refuse, in-ClientDone+in_ok-client-in-ClientDone}
use Rattle.play.proofs.lease.serve.Goals as goal

pub returns-in-Again-clause-at : goal.returns-in-Again-clause-at
returns-in-Again-clause-at c = lease_goes c.args.pool.now c.args.word c.args.script.now.bytes c.args.relay c.pump-next.new.self c.pump-next.ensures.lease c.requires

pub returns-in-Wait-clause-at : goal.returns-in-Wait-clause-at
returns-in-Wait-clause-at c = lease_goes c.args.pool.now c.args.word c.args.script.now.bytes c.args.relay c.pump-next.new.self c.pump-next.ensures.lease c.requires

pub part-requires : goal.part-requires
part-requires c = lease_goes c.args.pool.now c.args.word c.args.script.now.bytes c.args.relay c.pump-next.new.self c.pump-next.ensures.lease c.requires

pub refuse-requires : goal.refuse-requires
refuse-requires c =
    subst (λ h. IsAtPiece h c.args.word c.in_ok-client-in-Refuse.client) (sym c.part.ensures.same)
    (lease_piece c.args.pool.now c.args.word c.args.script.now.bytes c.in_ok-client-in-Refuse.client c.pump-next.new.self
    (lease_stops c.args.pool.now c.args.word c.args.script.now.bytes c.args.relay c.pump-next.new.self c.pump-next.ensures.lease (λ p l. (c.pump-next.ensures.refused p c.in-Refuse.refusal l c.in-Refuse.is).0) c.requires)
    c.in_ok-client-in-Refuse.ensures.client (subst AreBytes c.input.ensures c.are_bytes.ensures))

pub part-requires-in-ClientDone : goal.part-requires-in-ClientDone
part-requires-in-ClientDone c = lease_goes c.args.pool.now c.args.word c.args.script.now.bytes c.args.relay c.pump-next.new.self c.pump-next.ensures.lease c.requires

pub leave-stage-requires : goal.leave-stage-requires
leave-stage-requires c =
    subst (λ h. IsDone h c.args.word c.in_ok-client-in-ClientDone.client) (sym c.part-in-ClientDone.ensures.same)
    (lease_done c.args.pool.now c.args.word c.args.script.now.bytes c.in_ok-client-in-ClientDone.client c.pump-next.new.self
    (lease_goes c.args.pool.now c.args.word c.args.script.now.bytes c.args.relay c.pump-next.new.self c.pump-next.ensures.lease c.requires)
    c.in_ok-client-in-ClientDone.ensures.client)

pub returns-clause-at : goal.returns-clause-at
returns-clause-at c =
    let served = lease_goes c.args.pool.now c.args.word c.args.script.now.bytes c.args.relay c.pump-next.new.self c.pump-next.ensures.lease c.requires in
    elim c.match-next.branch [
      | in-Refuse+in_ok-client-in-Refuse+in_ok-stage-in-Refuse w ↦
          same_at c.args.pool.now w.part.new.pool c.args.word c.args.word w.in_ok-client-in-Refuse.client.input c.args.script.now.bytes w.in_ok-stage-in-Refuse.stage c.match-next.stage w.part.ensures.same refl (lease_input c.args.pool.now c.args.word c.args.script.now.bytes w.in_ok-client-in-Refuse.client c.pump-next.new.self served w.in_ok-client-in-Refuse.ensures.client) w.stage-is w.in_ok-stage-in-Refuse.ensures.at
      | in-ClientDone+in_ok-client-in-ClientDone w ↦
          same_at c.args.pool.now w.part-in-ClientDone.new.pool c.args.word c.args.word w.in_ok-client-in-ClientDone.client.input c.args.script.now.bytes w.leave-stage.result c.match-next.stage w.part-in-ClientDone.ensures.same refl (lease_input c.args.pool.now c.args.word c.args.script.now.bytes w.in_ok-client-in-ClientDone.client c.pump-next.new.self served w.in_ok-client-in-ClientDone.ensures.client) w.stage-is w.leave-stage.ensures.at
    ]
