use Rattle.std.proofs.Common.{◌∙◌, sym, ap, subst}
use Rattle.act_client.specs.Clients.{given_more}
use Rattle.std.specs.Arc.{arc_value}
use Rattle.play.specs.Players.{IsAtPiece, IsDone}
use Rattle.play.proofs.Pieces.{piece_done}
use Rattle.play.proofs.Logins.{let_in_piece}
use Rattle.play.proofs.login.ask.Goals as goal

pub leave-requires : goal.leave-requires
leave-requires c = subst (λ d. IsDone c.args.pool.now c.args.word d) (sym (c.in_ok-give.ensures.ok ∙ ap (given_more c.args.client) c.as_bytes.ensures)) (piece_done c.args.pool.now c.args.word _ (let_in_piece c.args.pool.now c.args.word c.args.client (arc_value c.args.key) _ c.requires))

pub refuse-requires : goal.refuse-requires
refuse-requires c =
    subst (λ h. IsAtPiece h c.args.word c.give.new.self) (sym c.ask.ensures)
    (subst (λ d. IsAtPiece c.args.pool.now c.args.word d) (sym (c.in_ok-give.ensures.ok ∙ ap (given_more c.args.client) c.as_bytes.ensures)) (let_in_piece c.args.pool.now c.args.word c.args.client (arc_value c.args.key) _ c.requires))

pub leave-requires-in-Strange : goal.leave-requires-in-Strange
leave-requires-in-Strange c =
    piece_done c.ask.new.self c.args.word c.give.new.self (subst (λ h. IsAtPiece h c.args.word c.give.new.self) (sym c.ask.ensures)
    (subst (λ d. IsAtPiece c.args.pool.now c.args.word d) (sym (c.in_ok-give.ensures.ok ∙ ap (given_more c.args.client) c.as_bytes.ensures)) (let_in_piece c.args.pool.now c.args.word c.args.client (arc_value c.args.key) _ c.requires)))
