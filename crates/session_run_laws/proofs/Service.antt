-- The service of a beginning of a client's bytes is a beginning of its service.
use Rattle.std.proofs.Common.{◌≡◌, ℕ, Bool, false, List, [], ◌++◌, refl, sym, ap, ◌∙◌, append_assoc, append-nil, Result, Ok, Err}
use Rattle.std.specs.List.{flat_map}
use Rattle.std.proofs.lemmas.Grind.{flat_map-append}
use Rattle.frame_view.specs.declared.Side.TheVariants.{Client}
use Rattle.frame_view.specs.declared.frames.TheConstants.{MAX_FRAME}
use Rattle.frame_view.specs.Frames.{FrameOf, Cut, frames, spelling}
use Rattle.frame_view.proofs.Splitting.{frames-go_on}
use Rattle.message_view.specs.Refusals.{Begins}
use Rattle.session_values.specs.declared.cause.Cause.{Cause}
use Rattle.session_values.specs.State.{State, CatalogueOf, StartKeyOf, Answer, fresh}
use Rattle.session_values.specs.Step.{has_mark, marks_after, run_frames}
use Rattle.session_values.specs.Service.{client_frames, served, service, welcome}
use Rattle.session_run_laws.proofs.ByName.{runs_go_on}
use Rattle.session_run_laws.proofs.GoesOn.{unmarked_run}

-- the frames of more bytes are more frames
more_frames : (a b : List ℕ) → client_frames (a ++ b) ≡ client_frames a ++ client_frames ((frames Client MAX_FRAME a).rest ++ b)
more_frames a b = ap (λ (c : Cut). c.frames) (frames-go_on Client MAX_FRAME a b)

begins_by : (part whole more : List ℕ) → whole ≡ part ++ more → Begins part whole
begins_by part whole more e = record { more = more; both = sym e }

served_on : (cat : CatalogueOf) (r : Result State Cause) (pid secret : ℕ) (marks : List Bool) (fs gs : List FrameOf) → Begins (flat_map spelling (served cat r pid secret marks fs)) (flat_map spelling (served cat r pid secret marks (fs ++ gs)))
served_on cat (Err c) pid secret marks fs gs = begins_by _ _ [] (sym (append-nil _))
served_on cat (Ok s) pid secret marks fs gs =
    let rs : List FrameOf = (run_frames cat s marks fs).replies in
    let qs : List FrameOf = (run_frames cat (run_frames cat s marks fs).next (marks_after fs marks) gs).replies in
    begins_by _ _ (flat_map spelling qs)
    (ap (λ (a : Answer). flat_map spelling (welcome s pid secret ++ a.replies)) (runs_go_on cat s marks fs gs)
    ∙ (ap (flat_map spelling) (sym (append_assoc (welcome s pid secret) rs qs)) ∙ flat_map-append spelling (welcome s pid secret ++ rs) qs))

pub service_on : (cat : CatalogueOf) (key : StartKeyOf) (pid secret : ℕ) (marks : List Bool) (a b : List ℕ) → Begins (service cat key pid secret marks a) (service cat key pid secret marks (a ++ b))
unfolding service
service_on cat key pid secret marks a b =
    let x : Begins (flat_map spelling (served cat (fresh cat key) pid secret marks (client_frames a))) (flat_map spelling (served cat (fresh cat key) pid secret marks (client_frames a ++ client_frames ((frames Client MAX_FRAME a).rest ++ b)))) =
    served_on cat (fresh cat key) pid secret marks (client_frames a) (client_frames ((frames Client MAX_FRAME a).rest ++ b)) in
    record { more = x.more; both = x.both ∙ ap (λ (fs : List FrameOf). flat_map spelling (served cat (fresh cat key) pid secret marks fs)) (sym (more_frames a b)) }

pub begins_both : (a b c : List ℕ) → Begins a b → Begins b c → Begins a c
begins_both a b c x y = record { more = x.more ++ y.more; both = sym (append_assoc a x.more y.more) ∙ (ap (λ (l : List ℕ). l ++ y.more) x.both ∙ y.both) }

-- where no frame is struck, it is the service that nobody cancels
pub service_unmarked : (cat : CatalogueOf) (key : StartKeyOf) (pid secret : ℕ) (marks : List Bool) (bytes : List ℕ) → has_mark marks ≡ false → service cat key pid secret marks bytes ≡ service cat key pid secret [] bytes
unfolding service
service_unmarked cat key pid secret marks bytes e = by (fresh cat key)
  where
    by : (r : Result State Cause) → flat_map spelling (served cat r pid secret marks (client_frames bytes)) ≡ flat_map spelling (served cat r pid secret [] (client_frames bytes))
    by (Ok s) = ap (λ (a : Answer). flat_map spelling (welcome s pid secret ++ a.replies)) (unmarked_run cat s marks (client_frames bytes) e)
    by (Err c) = refl
