use Rattle.std.proofs.Common.{◌∙◌, sym, ap, subst}
use Rattle.act_client.specs.Clients.{given_more}
use Rattle.play.specs.Players.{IsDone, Steps}
use Rattle.play.proofs.Pieces.{piece_done}
use Rattle.play.proofs.Logins.{asked_at, fails, more_at, passes, steps_piece, to_console}
use Rattle.play.proofs.login.follow.Goals.{in-More, in-Ask+in_ok-give-in-Ask+in-Challenge-1, in-Ask+in_ok-give-in-Ask+in-Encryption-1}
use Rattle.play.proofs.login.follow.Goals as goal

pub ask-requires : goal.ask-requires
ask-requires c = passes c.args.pool.now c.args.word c.args.client c.in-Passed.key _ c.args.login (subst (λ s. Steps c.args.pool.now c.args.word c.args.client s c.args.login) c.in-Passed.is c.requires)

pub refuse-requires : goal.refuse-requires
refuse-requires c = steps_piece c.args.pool.now c.args.word c.args.client c.args.step c.args.login c.requires

pub leave-requires : goal.leave-requires
leave-requires c =
    subst (λ d. IsDone c.args.pool.now c.args.word d) (sym (c.in_ok-give-in-Failed.ensures.ok ∙ ap (given_more c.args.client) c.as_bytes-in-Failed.ensures))
    (piece_done c.args.pool.now c.args.word _ (fails c.args.pool.now c.args.word c.args.client c.in-Failed.failure c.args.login (subst (λ s. Steps c.args.pool.now c.args.word c.args.client s c.args.login) c.in-Failed.is c.requires)))

pub leave-requires-in-Console : goal.leave-requires-in-Console
leave-requires-in-Console c =
    subst (λ d. IsDone c.args.pool.now c.args.word d) (sym (c.in_ok-give-in-Console.ensures.ok ∙ ap (given_more c.args.client) c.as_bytes-in-Console.ensures))
    (piece_done c.args.pool.now c.args.word _ (to_console c.args.pool.now c.args.word c.args.client c.in-Console.told c.args.login (subst (λ s. Steps c.args.pool.now c.args.word c.args.client s c.args.login) c.in-Console.is c.requires)))

pub leave-requires-in-Arrived : goal.leave-requires-in-Arrived
leave-requires-in-Arrived c = piece_done c.args.pool.now c.args.word c.args.client (steps_piece c.args.pool.now c.args.word c.args.client c.args.step c.args.login c.requires)

pub returns-clause-at : goal.returns-clause-at
returns-clause-at c = elim c.match-step.branch [
  | in-More w ↦ more_at c.args.pool.now c.args.word c.args.client c.match-step.client c.args.login (subst (λ s. Steps c.args.pool.now c.args.word c.args.client s c.args.login) w.in-More.is c.requires) w.client-is
  | in-Ask+in_ok-give-in-Ask+in-Challenge-1 w ↦ asked_at c.args.pool.now c.args.word c.args.client c.match-step.client w.in-Ask.question c.args.login (subst (λ s. Steps c.args.pool.now c.args.word c.args.client s c.args.login) w.in-Ask.is c.requires)
      (w.client-is ∙ (w.in_ok-give-in-Ask.ensures.ok ∙ ap (given_more c.args.client) w.as_bytes.ensures))
  | in-Ask+in_ok-give-in-Ask+in-Encryption-1 w ↦ asked_at c.args.pool.now c.args.word c.args.client c.match-step.client w.in-Ask.question c.args.login (subst (λ s. Steps c.args.pool.now c.args.word c.args.client s c.args.login) w.in-Ask.is c.requires)
      (w.client-is ∙ (w.in_ok-give-in-Ask.ensures.ok ∙ ap (given_more c.args.client) w.as_bytes.ensures))
]
