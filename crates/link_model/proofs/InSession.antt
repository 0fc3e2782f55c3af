-- Once its session is open, a server is the session: what it takes are frames.
use Rattle.std.proofs.Common.{◌≡◌, ℕ, List, [], ◌∷◌, ◌++◌, refl, ap}
use Rattle.std.specs.List.{flat_map, AllByRecursion}
use Rattle.frame_view.specs.Frames.{FrameOf, spelling}
use Rattle.session_run_laws.specs.State.{State}
use Rattle.session_run_laws.specs.Step.{marks_after, step, run_frames}
use Rattle.session_run_laws.specs.Laws.{IsSent}
use Rattle.link_model.specs.Stages.{Server, Open, Packet, Starts, Sends, packets_bytes, packets_marks, after, answers, MayTakeAll}

pub record InSession (v : Server) (s : State) (ps : List Packet) : Type 0 where
  pub frames : List FrameOf
  pub sent : AllByRecursion IsSent frames
  pub bytes : packets_bytes ps ≡ flat_map spelling frames
  pub stage : after v (Open s) ps ≡ Open (run_frames v.catalogue s (packets_marks ps) frames).next
  pub replies : answers v (Open s) ps ≡ (run_frames v.catalogue s (packets_marks ps) frames).replies
  -- each of its frames has a mark
  pub marked : marks_after frames (packets_marks ps) ≡ []

pub in_session : (v : Server) (s : State) (ps : List Packet) → MayTakeAll v (Open s) ps → InSession v s ps
unfolding run_frames
in_session v s [] h = record { frames = []; sent = tt; bytes = refl; stage = refl; replies = refl; marked = refl }
in_session v s (Starts x ∷ ps) h = absurd h.0
in_session v s (Sends m f ∷ ps) h =
    let r = in_session v (step v.catalogue s m f).next ps h.1 in
    record {
      frames = f ∷ r.frames;
      sent = (h.0.0, r.sent);
      bytes = ap (λ (b : List ℕ). spelling f ++ b) r.bytes;
      stage = r.stage;
      replies = ap (λ (b : List FrameOf). (step v.catalogue s m f).replies ++ b) r.replies;
      marked = r.marked;
    }
