-- What is told of a lease's frames, and the verdict on it.
use Rattle.std.specs.Prelude.{◌≡◌, ℕ, Bool, true, false, cond, List, [], ◌∷◌, ◌++◌, None}
use Rattle.std.specs.List.{flat_map}
use Rattle.frame_view.specs.Frames.{FrameOf}
use Rattle.disposal.specs.declared.Verdict.{Verdict}
use Rattle.disposal.specs.declared.Verdict.TheVariants as verdict
use Rattle.disposal.specs.Traffics.{Sent, SendBegins, SendEnds, Got, GetBegins, GetEnds, Breaks}
use Rattle.disposal.specs.Tallies.{Tally, Tells, send_begun, send_ended, got_begun, got_ended, got_broken}
use Rattle.param_track.specs.KeptReports.{KeptReport}
use Rattle.link_run.specs.Links.{after_frame}
use Rattle.link_run.specs.Dialogues.{is_known}
use Rattle.relay_flow.specs.Parts.{is_foreign, status_in}
use Rattle.relay_flow.specs.Flows.{FlowView, last_body}
use Rattle.relay_flow.specs.declared.flow.Passed.{Passed}

-- what is kept of a lease: the counts, and the reports of the link
pub record Told : Type 0 where
  pub tally : Tally
  pub reports : List KeptReport

abbrev pub told_of : Tally → List KeptReport → Told
told_of tally reports = record { tally = tally; reports = reports }

-- ---- a frame of the client that went on

abbrev pub sent_as : FrameOf → List Sent
sent_as f = SendBegins f.kind ∷ SendEnds ∷ []

-- ---- a frame of the server that came

-- A session that began with these reports may send it: it isn't one that no session sends (`foreign`), and if it is a
-- ParameterStatus it can be read and names a parameter that the link's start reported.
abbrev pub is_own : List KeptReport → Bool → FrameOf → Bool
is_own kept true f = false
is_own kept false f = is_known kept f

-- what is kept of the reports then
abbrev pub kept_after : List KeptReport → Bool → FrameOf → List KeptReport
kept_after kept true f = kept
kept_after kept false f = after_frame kept f

abbrev pub all_kept : List KeptReport → List FrameOf → List KeptReport
all_kept kept [] = kept
all_kept kept (f ∷ fs) = all_kept (kept_after kept (is_foreign f) f) fs

abbrev pub or_breaks : Bool → List Got → List Got
or_breaks true events = events
or_breaks false events = Breaks ∷ events

-- where no session sends it, something broke before its end
abbrev pub came_as : List KeptReport → FrameOf → List Got
came_as kept f = GetBegins f.kind ∷ or_breaks (is_own kept (is_foreign f) f) (GetEnds (status_in f) ∷ [])

abbrev pub all_came : List KeptReport → List FrameOf → List Got
all_came kept [] = []
all_came kept (f ∷ fs) = came_as kept f ++ all_came (kept_after kept (is_foreign f) f) fs

-- At the borders of both directions, the counts tell of these frames, and the reports kept are those of the start (`kept`)
-- and of these frames.
pub record Telling (kept : List KeptReport) (t : Told) (sent arrived : List FrameOf) : Type 0 where
  pub sending : t.tally.is_sending ≡ false
  pub getting : t.tally.getting ≡ None
  pub tells : Tells t.tally (flat_map sent_as sent) (all_came kept arrived)
  pub keeps : t.reports ≡ all_kept kept arrived

-- ---- the calls that tell of one frame

abbrev pub told_sent : ℕ → Tally → Tally
told_sent kind t = send_ended (send_begun kind t)

abbrev pub or_broken : Bool → Tally → Tally
or_broken true t = t
or_broken false t = got_broken t

abbrev pub begun_arrived : Passed → Bool → Tally → Tally
begun_arrived p own t = or_broken own (got_begun p.kind t)

abbrev pub told_arrived : Passed → Bool → Tally → Tally
told_arrived p own t = got_ended p.status (begun_arrived p own t)

-- what is read of a frame that went on, the last of those that are held
pub record IsRead (kept after : List KeptReport) (own : Bool) (f : FlowView) (p : Passed) : Type 0 where
  pub own_is : own ≡ is_own kept p.is_foreign (record { kind = p.kind; body = last_body f p.count })
  pub kept_is : after ≡ kept_after kept p.is_foreign (record { kind = p.kind; body = last_body f p.count })

-- ---- the verdict on a lease

-- what the counts say, where the server's bytes are faulty, and where both directions stand at a border
abbrev pub verdict_by : Verdict → Bool → Bool → Verdict
verdict_by verdict.Broken faulty border = verdict.Broken
verdict_by verdict.MidFrame faulty border = cond faulty verdict.Broken verdict.MidFrame
verdict_by verdict.Unanswered faulty border = cond faulty verdict.Broken (cond border verdict.Unanswered verdict.MidFrame)
verdict_by verdict.InBlock faulty border = cond faulty verdict.Broken (cond border verdict.InBlock verdict.MidFrame)
verdict_by verdict.Settled faulty border = cond faulty verdict.Broken (cond border verdict.Settled verdict.MidFrame)
