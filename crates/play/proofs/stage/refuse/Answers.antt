use Rattle.std.proofs.Common.{◌∙◌, sym, ap, subst}
use Rattle.act_client.specs.Clients.{given_more}
use Rattle.play.specs.Players.{IsDone}
use Rattle.play.proofs.Pieces.{refused_done}
use Rattle.play.proofs.stage.refuse.Goals as goal

pub leave-requires : goal.leave-requires
leave-requires c =
    subst (λ d. IsDone c.args.pool.now c.args.word d) (sym (c.in_ok-give.ensures.ok ∙ ap (given_more c.args.client) c.refusal_bytes.ensures))
    (refused_done c.args.pool.now c.args.word c.args.client c.args.refusal c.requires)
