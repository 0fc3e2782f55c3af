use Rattle.std.proofs.Common.{ℕ, List, sym, ap, ap₂, ◌∙◌, subst, Result, Err, Option, None}
use Rattle.frame_view.specs.declared.Side.TheVariants.{Server}
use Rattle.frame_view.specs.Frames.{AreBytes, frames}
use Rattle.message_view.specs.declared.ViewError.{ViewError}
use Rattle.message_view.specs.declared.views.KeyView.{KeyView}
use Rattle.param_track.specs.KeptReports.{KeptReport}
use Rattle.link_start.specs.declared.start_reply.TakeReportError.{TakeReportError}
use Rattle.link_run.specs.Dialogues.{keyed_all, reported_all}
use Rattle.link_start.specs.StartReply.{Takes}
use Rattle.link_start.specs.Starts.{StartView, IsDone, IsDoneFrom, IsOwnKey}
use Rattle.link_start.proofs.Starting.{started_clean, unreported_cause, unkeyed_cause, own_key}
use Rattle.link_start.proofs.start.Start.finish.Goals as goal

abbrev reported : List KeptReport → List ℕ → Option (List KeptReport)
reported kept bytes = reported_all kept (frames Server 65536 bytes).frames

abbrev keyed : List ℕ → Result (Option KeyView) ViewError
keyed bytes = keyed_all None (frames Server 65536 bytes).frames

pub clean-requires : goal.clean-requires
clean-requires g c =
    started_clean _ (subst (λ (v : StartView). IsDone v) (sym c.self.view_is) c.requires) c.in-Ok.server_key c.take_reports.new.reported (subst AreBytes c.as_slice.ensures c.in-Ok.ensures.bytes)
    (ap keyed (sym c.as_slice.ensures) ∙ sym c.in-Ok.ensures.key)
    (ap₂ reported (sym c.new-reported.ensures) (sym c.as_slice-2.ensures) ∙ c.in-Ok-take_reports.ensures.taken)

pub returns-in_default-clause-cause : goal.returns-in_default-clause-cause
returns-in_default-clause-cause g c = λ b s d.
    let y = subst (λ (v : StartView). IsDoneFrom b s v) (sym c.self.view_is) d in
    unkeyed_cause b s _ c.key_told.result y (subst AreBytes c.as_slice.ensures c.key_told.ensures.bytes) c.in_default.not-Ok (c.key_told.ensures.key ∙ ap keyed c.as_slice.ensures)

pub returns-in-Ok-take_reports-clause-own_key : goal.returns-in-Ok-take_reports-clause-own_key
returns-in-Ok-take_reports-clause-own_key g c = λ b s d f.
    let received = c.as_slice.ensures ∙ ap (λ (v : StartView). v.received) c.self.view_is in
    subst (IsOwnKey b.server) (sym c.clean.ensures.server_key) (own_key b s c.args.self c.in-Ok.server_key d f (subst AreBytes received c.key_told.ensures.bytes) (ap keyed (sym received) ∙ sym c.in-Ok.ensures.key))

pub returns-in-Err-Unexpected-clause-cause : goal.returns-in-Err-Unexpected-clause-cause
returns-in-Err-Unexpected-clause-cause g c = λ b s d.
    let y = subst (λ (v : StartView). IsDoneFrom b s v) (sym c.self.view_is) d in
    unreported_cause b s _ y (subst AreBytes c.as_slice-2.ensures c.in-Err-Unexpected.ensures.bytes)
    (ap₂ reported (sym c.new-reported.ensures) (sym c.as_slice-2.ensures)
    ∙ subst (λ (u : TakeReportError). Takes (reported c.new-reported.result c.as_slice-2.result.now) c.take_reports.new.reported (Err u)) c.in-Err-Unexpected.field-0-is c.in-Err-Unexpected.ensures.taken)
