use Rattle.std.proofs.Common.{sym, subst, ◌∙◌, List}
use Rattle.std.proofs.lemmas.Result.{IfErr-weaker, IfOk-weaker}
use Rattle.param_track.specs.KeptReports.{KeptReport}
use Rattle.server_end.specs.Standing.{Standing}
use Rattle.link_run.specs.declared.reset.ResetError.{ResetError}
use Rattle.link_run.specs.declared.reset.ResetError.TheVariants.{Unexpected}
use Rattle.link_run.specs.Dialogues.{IsResetDialogue}
use Rattle.link_run.specs.Resets.{FailsBy}
use Rattle.link_run.proofs.Resetting.{fails_by, ends_by, other_by}
use Rattle.link_run.proofs.reset.reset_link.Goals as goal

pub returns-in-Err-receive-clause-faults : goal.returns-in-Err-receive-clause-faults
returns-in-Err-receive-clause-faults g c =
    let start = c.args.used.stands in
    let kept = c.args.used.reports in
    let failed = c.fail-in-Err-receive in
    subst (λ (cause : ResetError). FailsBy kept start (g.E.ServerEnd.standing failed.result.end) c.args.turns cause) (sym failed.ensures.cause)
    (subst (λ (end : Standing). FailsBy kept start end c.args.turns c.in-Err-receive.cause) (sym failed.ensures.stands)
    (fails_by kept start c.send.new.self.link c.receive.new.self.link c.args.turns c.in-Err-receive.cause (c.send.ensures.keeps start c.loop.invariant.from).faults c.in-Err-receive.ensures.faults))

pub returns-in-All-clause-whole : goal.returns-in-All-clause-whole
returns-in-All-clause-whole g c =
    let start = c.args.used.stands in
    let now = c.receive.ensures.keeps start (c.send.ensures.keeps start c.loop.invariant.from) in
    let same = c.receive.ensures.reports ∙ c.send.ensures.reports ∙ c.loop.invariant.reports in
    IfOk-weaker c.finish.result _ _ (λ l f. subst (λ (kept : List KeptReport). IsResetDialogue start kept l.stands l.reports) same (f start now)) c.finish.ensures.whole

pub returns-in-All-clause-faults : goal.returns-in-All-clause-faults
returns-in-All-clause-faults g c =
    let start = c.args.used.stands in
    let now = c.receive.ensures.keeps start (c.send.ensures.keeps start c.loop.invariant.from) in
    let same = c.receive.ensures.reports ∙ c.send.ensures.reports ∙ c.loop.invariant.reports in
    IfErr-weaker c.finish.result _ _ (λ d f. subst (λ (kept : List KeptReport). FailsBy kept start (g.E.ServerEnd.standing d.end) c.args.turns d.cause) same
    (ends_by start c.receive.new.self (g.E.ServerEnd.standing d.end) c.args.turns d.cause now (c.read.ensures.all c.in-All.is) f)) c.finish.ensures.faults

pub returns-in-Other-clause-faults : goal.returns-in-Other-clause-faults
returns-in-Other-clause-faults g c =
    let start = c.args.used.stands in
    let now = c.receive.ensures.keeps start (c.send.ensures.keeps start c.loop.invariant.from) in
    let same = c.receive.ensures.reports ∙ c.send.ensures.reports ∙ c.loop.invariant.reports in
    let failed = c.fail-in-Other in
    subst (λ (cause : ResetError). FailsBy c.args.used.reports start (g.E.ServerEnd.standing failed.result.end) c.args.turns cause) (sym failed.ensures.cause)
    (subst (λ (kept : List KeptReport). FailsBy kept start (g.E.ServerEnd.standing failed.result.end) c.args.turns Unexpected) same
    (other_by start c.receive.new.self (g.E.ServerEnd.standing failed.result.end) c.args.turns now failed.ensures.stands (c.read.ensures.other c.in-Other.is) (c.read.ensures.disturbed c.in-Other.is start now)))
