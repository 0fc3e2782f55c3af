use Rattle.std.proofs.Common.{◌∙◌, sym, ap, subst}
use Rattle.std.specs.Arc.{arc_value}
use Rattle.act_client.specs.Clients.{given_more}
use Rattle.memory_pool.specs.MemoryPools.{IsTaken}
use Rattle.play.specs.Players.{IsAtPiece}
use Rattle.play.proofs.Leases.{start_fails}
use Rattle.play.proofs.Logins.{key_starts, waits_piece}
use Rattle.play.proofs.Pieces.{piece_done}
use Rattle.play.proofs.waiting.wait.Goals as goal

pub leave-requires : goal.leave-requires
leave-requires c = piece_done c.args.pool.now c.args.word c.args.client (waits_piece c.args.pool.now c.args.word c.args.client (arc_value c.args.key) c.requires)

pub take-requires : goal.take-requires
take-requires c = key_starts c.bounded_rows_are_lawful.ensures c.passed_keys_are_link_keys.ensures c.args.pool.now c.args.word c.args.client (arc_value c.args.key) c.is_bounded.ensures c.requires

pub refuse-requires : goal.refuse-requires
refuse-requires c = subst (λ h. IsAtPiece h c.args.word c.args.client) (sym c.take.ensures.same) (waits_piece c.args.pool.now c.args.word c.args.client (arc_value c.args.key) c.requires)

pub leave-stage-requires : goal.leave-stage-requires
leave-stage-requires c =
    piece_done c.take.new.self c.args.word c.give.new.self
    (subst (λ h. IsAtPiece h c.args.word c.give.new.self) (sym c.take.ensures.same)
    (subst (λ d. IsAtPiece c.args.pool.now c.args.word d) (sym (c.in_ok-give-in-Failed.ensures.ok ∙ ap (given_more c.args.client) c.as_bytes.ensures))
    (start_fails c.args.pool.now c.args.word c.args.client (arc_value c.args.key) c.in-Failed.error c.requires (subst (IsTaken c.args.pool.now.catalogue (arc_value c.args.key)) c.in-Failed.is c.in_ok-link.ensures.taken))))

pub leave-stage-requires-in-Strange : goal.leave-stage-requires-in-Strange
leave-stage-requires-in-Strange c =
    piece_done c.take.new.self c.args.word c.args.client
    (subst (λ h. IsAtPiece h c.args.word c.args.client) (sym c.take.ensures.same) (waits_piece c.args.pool.now c.args.word c.args.client (arc_value c.args.key) c.requires))
