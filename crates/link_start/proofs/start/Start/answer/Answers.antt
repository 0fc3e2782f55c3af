use Rattle.std.proofs.Common.{◌≡◌, ◌+◌, ℕ, List, drop, arith, sym, ap, ◌∙◌, subst, length, length-append}
use Rattle.std.specs.Arc.{arc_value}
use Rattle.std.proofs.lemmas.List.{drop-append-le}
use Rattle.frame_view.specs.Frames.{AreBytes, spelling}
use Rattle.message_view.specs.Bodies.{Text}
use Rattle.session_values.specs.State.{StartKeyOf}
use Rattle.link_model.specs.Dialogues.{answer_message}
use Rattle.link_start.specs.Questions.{answer_to}
use Rattle.link_start.specs.StartReply.{heard}
use Rattle.link_start.specs.declared.start_reply.StartProgress.TheVariants.{Asked}
use Rattle.link_start.specs.declared.start.StartCause.TheVariants as causes
use Rattle.link_start.specs.Starts.{StartView, start_view, IsStartUnderWay, IsLinkKey, bytes_left}
use Rattle.link_start.proofs.Lengths.{wanted_most}
use Rattle.link_start.proofs.Starting.{can_at, caused, left_answered, next_answered, none_put, put_so, unanswerable_cause}
use Rattle.link_start.proofs.start.Start.answer.Goals as goal

pub returns-then-not-branch-clause-cause : goal.returns-then-not-branch-clause-cause
returns-then-not-branch-clause-cause g c = λ b can k x.
    let view = c.self-2.view_is in
    let received = ap (λ (v : StartView). v.received) view ∙ c.in_ok-answer_before.ensures.received in
    let key = ap (λ (v : StartView). v.key) view ∙ c.in_ok-answer_before.ensures.same.0 in
    let user = c.as_slice-user.ensures ∙ ap (λ (o : StartKeyOf). o.user) (c.behind-self.view_is ∙ c.deref.ensures) in
    let none = none_put c.in_ok-put_answer.field-0 _ _ _ c.if-not-branch.true c.in_ok-put_answer.ensures in
    caused b _ c.args.credential.now _ c.args.self.now.key (causes.Unanswerable c.args.question) key
    (unanswerable_cause b c.args.credential.now _ c.args.question (can_at b c.args.credential.now _ _ key can) (subst IsLinkKey (sym key) k)
    (subst (λ (v : StartView). IsStartUnderWay b c.args.credential.now v) (sym view) (c.in_ok-answer_before.ensures.under_way b can k x))
    (subst AreBytes (sym received) c.requires.bytes) (subst (λ (bytes : List ℕ). heard c.args.credential.now bytes ≡ Asked c.args.question) (sym received) c.requires.asked)
    (ap (λ (u : Text). answer_to c.args.credential.now u c.args.question) (sym user) ∙ none)
    (omega (arith, ap (λ (v : StartView). v.answered) view, c.in_ok-answer_before.ensures.one)))

pub invariant_of-self-2 : goal.invariant_of-self-2
invariant_of-self-2 g c =
    let put = put_so c.in_ok-put_answer.field-0 _ _ _ c.if-not-branch.false c.in_ok-put_answer.ensures in
    omega (arith, c.self-2.invariant, ap length put.2, length-append c.self-2.inside.messages.items (spelling (answer_message put.0)))

pub returns-clause-under_way : goal.returns-clause-under_way
returns-clause-under_way g c = λ b can k x.
    let view = c.self-2.view_is in
    let received = ap (λ (v : StartView). v.received) view ∙ c.in_ok-answer_before.ensures.received in
    let key = ap (λ (v : StartView). v.key) view ∙ c.in_ok-answer_before.ensures.same.0 in
    let user = c.as_slice-user.ensures ∙ ap (λ (o : StartKeyOf). o.user) (c.behind-self.view_is ∙ c.deref.ensures) in
    let put = put_so c.in_ok-put_answer.field-0 _ _ _ c.if-not-branch.false c.in_ok-put_answer.ensures in
    next_answered b c.args.credential.now _ c.args.question _ put.0 (can_at b c.args.credential.now _ _ key can) (subst IsLinkKey (sym key) k)
    (subst (λ (v : StartView). IsStartUnderWay b c.args.credential.now v) (sym view) (c.in_ok-answer_before.ensures.under_way b can k x))
    (subst AreBytes (sym received) c.requires.bytes) (subst (λ (bytes : List ℕ). heard c.args.credential.now bytes ≡ Asked c.args.question) (sym received) c.requires.asked)
    (ap (λ (v : StartView). v.answered + 1) view ∙ c.in_ok-answer_before.ensures.one)
    (ap (λ (u : Text). answer_to c.args.credential.now u c.args.question) (sym user) ∙ put.1)
    (ap (drop c.self-2.inside.sent) put.2 ∙ drop-append-le c.self-2.inside.sent c.self-2.inside.messages.items _ c.self-2.invariant) put.3

pub returns-clause-left : goal.returns-clause-left
returns-clause-left g c =
    let view = c.self-2.view_is in
    let put = put_so c.in_ok-put_answer.field-0 _ _ _ c.if-not-branch.false c.in_ok-put_answer.ensures in
    let before : StartView =
    start_view (g.E.ServerEnd.standing c.self-2.inside.end) (arc_value c.self-2.inside.key) c.self-2.inside.number c.self-2.inside.started_at c.self-2.inside.answered (drop c.self-2.inside.sent c.self-2.inside.messages.items) c.self-2.inside.reply.items in
    let less = left_answered before (drop c.self-2.inside.sent c.put_answer.new.out.items) put.0 (ap (drop c.self-2.inside.sent) put.2 ∙ drop-append-le c.self-2.inside.sent c.self-2.inside.messages.items _ c.self-2.invariant) put.3
    (omega (arith, ap (λ (v : StartView). v.answered) view, c.in_ok-answer_before.ensures.one, wanted_most c.args.question)) in
    omega (arith, less, ap bytes_left view, c.in_ok-answer_before.ensures.left)
