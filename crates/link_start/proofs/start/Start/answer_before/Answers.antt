use Rattle.std.proofs.Common.{◌≡◌, ℕ, List, drop, arith, sym, ap, ◌∙◌, subst}
use Rattle.std.proofs.lemmas.List.{drop-append-le}
use Rattle.frame_view.specs.Frames.{AreBytes}
use Rattle.credentials.specs.Credentials.{first_response}
use Rattle.link_start.specs.StartReply.{heard}
use Rattle.link_start.specs.declared.start_reply.StartProgress.TheVariants.{Asked}
use Rattle.link_start.specs.Starts.{StartView, IsStartUnderWay, IsLinkKey}
use Rattle.link_start.proofs.Starting.{can_at, early_answered}
use Rattle.link_start.proofs.start.Start.answer_before.Goals.{then-self-answers_wanted+in_ok-put_first, else-self-answers_wanted}
use Rattle.link_start.proofs.start.Start.answer_before.Goals as goal

pub returns-clause-under_way : goal.returns-clause-under_way
returns-clause-under_way g c = λ b can k x.
    let view = c.self.view_is in
    let y = subst (λ (v : StartView). IsStartUnderWay b c.args.credential.now v) (sym view) x in
    let received = ap (λ (v : StartView). v.received) view in
    elim c.if-self-answers_wanted.branch [
      | then-self-answers_wanted+in_ok-put_first w ↦ subst (λ (v : StartView). IsStartUnderWay b c.args.credential.now v) (sym w.self-is)
          (early_answered b c.args.credential.now _ c.args.question.now _ (first_response c.args.credential.now).body (can_at b c.args.credential.now _ _ (ap (λ (v : StartView). v.key) view) can) (subst IsLinkKey (sym (ap (λ (v : StartView). v.key) view)) k) y
          (subst AreBytes (sym received) c.requires.bytes) (subst (λ (bytes : List ℕ). heard c.args.credential.now bytes ≡ Asked c.args.question.now) (sym received) c.requires.asked)
          (omega (arith, w.if-self-answers_wanted.true, c.answers_wanted.ensures))
          (ap (drop c.self.inside.sent) w.in_ok-put_first.ensures.0 ∙ drop-append-le c.self.inside.sent c.self.inside.messages.items _ c.self.invariant)
          (omega (arith, w.in_ok-put_first.ensures.1)))
      | else-self-answers_wanted w ↦ subst (λ (v : StartView). IsStartUnderWay b c.args.credential.now v) (sym w.self-is) x
    ]
