use Rattle.std.proofs.Common.{inl, inr, ⊎_elim, ℕ, List, ap, sym, ◌∙◌, subst}
use Rattle.std.proofs.lemmas.List.{drop_all}
use Rattle.frame_view.specs.Frames.{spelling}
use Rattle.session_run_laws.specs.Laws.{discard_all}
use Rattle.server_end.specs.Standing.{was_struck}
use Rattle.link_run.specs.Resets.{ResetView, IsAnsweredReset, IsResetFrom, answer_in, reads}
use Rattle.link_run.proofs.Resetting.{answered}
use Rattle.link_run.proofs.Told.{no_other, none_early, some_unsent, struck_unless}
use Rattle.link_run.proofs.reset.Reset.read.Goals as goal
use Rattle.link_run.proofs.reset.Reset.read.Goals.{then-not-is_all-via-then-not-is_all, then-not-is_all-via-else-not-is_all+then-self-lt17}

pub returns-clause-all : goal.returns-clause-all
returns-clause-all g c = λ d. subst (λ (v : ResetView). IsAnsweredReset v) c.self.view_is
    (answered _ c.as_slice.result.now c.read_reply-answered.result.0 c.read_reply-answered.result.1 c.as_slice.ensures c.read_reply-answered.ensures.bytes c.read_reply-answered.ensures.answered c.read_reply-answered.ensures.rest d c.if-not-is_all.false
    (drop_all c.self.inside.sent (spelling discard_all) c.if-self-lt17.false))

pub returns-clause-disturbed : goal.returns-clause-disturbed
returns-clause-disturbed g c = λ d start x. struck_unless c.args.self.now start x (λ f none.
    let y = subst (λ (v : ResetView). IsResetFrom start v) (sym c.self.view_is) x in
    no_other _ c.as_slice.result.now c.read_reply-answered.result.0 c.as_slice.ensures c.read_reply-answered.ensures.bytes c.read_reply-answered.ensures.answered start y d (ap (λ (v : ResetView). v.link.follows) c.self.view_is ∙ f) (ap (λ (v : ResetView). was_struck start v.link) c.self.view_is ∙ none))

pub returns-then-not-is_all-clause-disturbed : goal.returns-then-not-is_all-clause-disturbed
returns-then-not-is_all-clause-disturbed g c = λ d start x. struck_unless c.args.self.now start x (λ f unstruck.
    let follows = ap (λ (v : ResetView). v.link.follows) c.self.view_is ∙ f in
    let none = ap (λ (v : ResetView). was_struck start v.link) c.self.view_is ∙ unstruck in
    let y = subst (λ (v : ResetView). IsResetFrom start v) (sym c.self.view_is) x in
    ⊎_elim (λ a.
    let e = none_early _ c.as_slice.result.now c.read_reply-answered.result.0 c.as_slice.ensures c.read_reply-answered.ensures.bytes c.read_reply-answered.ensures.answered start y a follows none in
    elim c.then-not-is_all.branch [
      | then-not-is_all-via-then-not-is_all w ↦ c.read_reply-answered.ensures.behind w.if-not-is_all.true e.0
      | then-not-is_all-via-else-not-is_all+then-self-lt17 w ↦ some_unsent c.self.inside.sent w.if-self-lt17.true e.1
    ])
    (λ o. no_other _ c.as_slice.result.now c.read_reply-answered.result.0 c.as_slice.ensures c.read_reply-answered.ensures.bytes c.read_reply-answered.ensures.answered start y o follows none)
    (c.before_end.ensures.other d))

-- what the bytes received come to
pub returns-clause-other : goal.returns-clause-other
returns-clause-other g c = λ d. inl (ap (λ (v : ResetView). reads (answer_in v.received)) (sym c.self.view_is) ∙ ap (λ (b : List ℕ). reads (answer_in b)) (sym c.as_slice.ensures) ∙ sym c.read_reply-answered.ensures.answered ∙ d)

pub returns-then-not-is_all-clause-other : goal.returns-then-not-is_all-clause-other
returns-then-not-is_all-clause-other g c = λ d.
    let read = ap (λ (v : ResetView). reads (answer_in v.received)) (sym c.self.view_is) ∙ ap (λ (b : List ℕ). reads (answer_in b)) (sym c.as_slice.ensures) ∙ sym c.read_reply-answered.ensures.answered in
    ⊎_elim (λ a. inr (
      read ∙ a,
      elim c.then-not-is_all.branch [
        | then-not-is_all-via-then-not-is_all w ↦ inl (λ e. c.read_reply-answered.ensures.behind w.if-not-is_all.true (ap (λ (b : List ℕ). (answer_in b).rest) c.as_slice.ensures ∙ ap (λ (v : ResetView). (answer_in v.received).rest) c.self.view_is ∙ e))
        | then-not-is_all-via-else-not-is_all+then-self-lt17 w ↦ inr (λ e. some_unsent c.self.inside.sent w.if-self-lt17.true (ap (λ (v : ResetView). v.unsent) c.self.view_is ∙ e))
      ],
    ))
    (λ o. inl (read ∙ o))
    (c.before_end.ensures.other d)
