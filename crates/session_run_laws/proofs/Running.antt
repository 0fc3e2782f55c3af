-- Runs: what is reached stays so, and what is told of one step holds of a run.
use Rattle.std.proofs.Common.{ℕ, zero, suc, ◌+◌, Bool, List, [], ◌∷◌, ◌++◌, length, append_assoc, refl, sym, ap, subst, ◌∙◌, arith}
use Rattle.std.specs.List.{AllByRecursion, flat_map}
use Rattle.std.specs.Int.{w32, to_be_bytes}
use Rattle.frame_view.specs.declared.frames.TheConstants.{MAX_FRAME}
use Rattle.frame_view.specs.Frames.{AreBytes, FrameOf, IsFrame, spelling}
use Rattle.frame_view.specs.declared.Side.TheVariants.{Client, Server}
use Rattle.frame_view.proofs.Splitting.{frames-split}
use Rattle.mini_sql.specs.Words.{Text}
use Rattle.session_values.specs.State.{State}
use Rattle.session_values.specs.Step.{step, first_mark, later_marks, run_frames}
use Rattle.session_values.specs.Service.{client_frames}
use Rattle.session_laws.specs.Laws.{IsSent, steps, after_replies}
use Rattle.session_run_laws.specs.Runs.{RunsStayReached, ClientFramesAreSent, RunRepliesAreFrames, RunReportsTellValues}
use Rattle.session_values.proofs.Alls.{all-append}
use Rattle.session_laws.proofs.Trips.{bytes_after}
use Rattle.session_laws.proofs.ByName.{replies_are_frames, reports_tell_values}
use Rattle.session_laws.proofs.Telling.{after-append}

-- ---- what is reached

pub runs-reached : RunsStayReached
unfolding run_frames
runs-reached cat key s marks [] r h = r
runs-reached cat key s marks (f ∷ fs) r h = runs-reached cat key (step cat s (first_mark marks) f).next (later_marks marks) fs (steps (first_mark marks) f r h.0) h.1

bytes_before : (front rest : List ℕ) → AreBytes (front ++ rest) → AreBytes front
bytes_before [] rest k i = omega arith
bytes_before (b ∷ front) rest k zero = k 0
bytes_before (b ∷ front) rest k (suc i) = bytes_before front rest (λ j. k (suc j)) i

spelled-sent : (fs : List FrameOf) (rest : List ℕ) → AllByRecursion (IsFrame Client MAX_FRAME) fs → AreBytes (flat_map spelling fs ++ rest) → AllByRecursion IsSent fs
spelled-sent [] rest h k = tt
spelled-sent (f ∷ fs) rest h k =
    let bytes = subst AreBytes (append_assoc (spelling f) (flat_map spelling fs) rest) k in
    let own = bytes_before (spelling f) (flat_map spelling fs ++ rest) bytes in
    (record { whole = h.0; bytes = bytes_after (f.kind ∷ to_be_bytes w32 (4 + length f.body)) f.body own }, spelled-sent fs rest h.1 (bytes_after (spelling f) (flat_map spelling fs ++ rest) bytes))

pub client_frames-sent : ClientFramesAreSent
client_frames-sent bytes h =
    let s = frames-split Client MAX_FRAME bytes h in
    spelled-sent (client_frames bytes) _ s.each (subst AreBytes s.whole h)

-- ---- a run

pub run-are_frames : RunRepliesAreFrames
unfolding run_frames
run-are_frames cat key s marks [] r h = tt
run-are_frames cat key s marks (f ∷ fs) r h =
    let m : Bool = first_mark marks in
    let t : State = (step cat s m f).next in
    all-append (IsFrame Server MAX_FRAME) (step cat s m f).replies (run_frames cat t (later_marks marks) fs).replies (replies_are_frames cat key s m f r h.0) (run-are_frames cat key t (later_marks marks) fs (steps m f r h.0) h.1)

pub run-told : RunReportsTellValues
unfolding run_frames
run-told cat key s marks [] r h = refl
run-told cat key s marks (f ∷ fs) r h =
    let m : Bool = first_mark marks in
    let t : State = (step cat s m f).next in
    let more : List FrameOf = (run_frames cat t (later_marks marks) fs).replies in
    run-told cat key t (later_marks marks) fs (steps m f r h.0) h.1
    ∙ ap (λ (vs : List Text). after_replies vs more) (reports_tell_values cat key s m f r h.0)
    ∙ sym (after-append s.reported (step cat s m f).replies more)
