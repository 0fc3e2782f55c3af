-- More bytes of a client only add to what a server of its own answers.
use Rattle.std.proofs.Common.{◌≡◌, ℕ, Bool, List, [], ◌∷◌, ◌++◌, inl, inr, refl, sym, ap, ◌∙◌, subst, append-nil, arith, Result, Ok, Err}
use Rattle.std.specs.List.{flat_map, AllByRecursion}
use Rattle.frame_view.specs.declared.Side.TheVariants.{Client}
use Rattle.frame_view.specs.Frames.{FrameOf, IsFrame, Cut, frames, spelling}
use Rattle.frame_view.proofs.Splitting.{frames-go_on, frames-spellings}
use Rattle.message_view.specs.declared.KeyWord.{KeyWord}
use Rattle.message_view.specs.Refusals.{Allowed}
use Rattle.session_values.specs.declared.cause.Cause.{Cause}
use Rattle.session_values.specs.Errors.{fatal}
use Rattle.session_values.specs.State.{State, CatalogueOf, fresh, Address, address_of}
use Rattle.session_values.specs.Step.{marks_after, run_frames}
use Rattle.session_values.specs.Service.{welcome, client_frames, served}
use Rattle.session_laws.specs.Laws.{IsSent}
use Rattle.login_core.specs.Talk.{End}
use Rattle.login_core.specs.Talk.End.{Unfinished, Passed, Stopped}
use Rattle.login_core.specs.Dialogue.{LoginRow, Way, ToLink, ToConsole, Reason, login}
use Rattle.login_core.specs.Solo.{solo_in, after_in}
use Rattle.world_steps.proofs.Fronts.{front_refl, front_append, front_trans, front_under, front_of, front_joined, front_frames, replies-append}
use Rattle.world_steps.proofs.Logins.{login_front, login_passed, login_stopped}
use Rattle.frame_view.specs.declared.frames.TheConstants.{MAX_FRAME}
use Rattle.world_steps.specs.Relation.{IsFront}

pub all_client : (fs : List FrameOf) → AllByRecursion IsSent fs → AllByRecursion (IsFrame Client MAX_FRAME) fs
all_client [] h = tt
all_client (f ∷ fs) h = (h.0.whole, all_client fs h.1)

-- the frames of bytes that begin with frames
pub frames_after : (fs : List FrameOf) (b : List ℕ) → AllByRecursion IsSent fs → client_frames (flat_map spelling fs ++ b) ≡ fs ++ client_frames b
frames_after fs b h = ap (λ (c : Cut). c.frames) (frames-spellings Client MAX_FRAME fs b (omega arith) (all_client fs h))

frames_front : (a b : List ℕ) → IsFront (client_frames a) (client_frames (a ++ b))
frames_front a b = record { rest = (frames Client MAX_FRAME ((frames Client MAX_FRAME a).rest ++ b)).frames; is = sym (ap (λ (c : Cut). c.frames) (frames-go_on Client MAX_FRAME a b)) }

pub replies_front : (cat : CatalogueOf) (s : State) (marks : List Bool) {fs gs : List FrameOf} → IsFront fs gs → IsFront (run_frames cat s marks fs).replies (run_frames cat s marks gs).replies
replies_front cat s marks {fs} {gs} f = record {
  rest = (run_frames cat (run_frames cat s marks fs).next (marks_after fs marks) f.rest).replies;
  is = sym (replies-append cat s marks fs f.rest) ∙ ap (λ (l : List FrameOf). (run_frames cat s marks l).replies) f.is;
}

served_front : (cat : CatalogueOf) (st : Result State Cause) (word : KeyWord) (marks : List Bool) (a b : List ℕ) → IsFront (served cat st word.pid word.secret marks (client_frames a)) (served cat st word.pid word.secret marks (client_frames (a ++ b)))
served_front cat (Ok s) word marks a b = front_under (welcome s word.pid word.secret) (replies_front cat s marks (frames_front a b))
served_front cat (Err cause) word marks a b = front_refl (fatal cause ∷ [])

module _ (catalogue : Address → CatalogueOf) where
  way_front : (word : KeyWord) (marks : List Bool) (way : Way) (left more : List ℕ) → IsFront (after_in catalogue word marks (Passed way left)) (after_in catalogue word marks (Passed way (left ++ more)))
  way_front word marks (ToLink key) left more =
      let cat : CatalogueOf = catalogue (address_of key) in front_frames (served_front cat (fresh cat key) word marks left more)
  way_front word marks ToConsole left more = front_refl []

  -- the login's pieces and what follows are a front of those for more bytes, or the login isn't done
  pub data Grows (row : LoginRow) (word : KeyWord) (marks : List Bool) (a b : List ℕ) : Type 0 where
    not_done : after_in catalogue word marks (login row word a).ended ≡ [] → IsFront (login row word a).pieces (login row word (a ++ b)).pieces → Grows row word marks a b
    is_done : (login row word (a ++ b)).pieces ≡ (login row word a).pieces → IsFront (after_in catalogue word marks (login row word a).ended) (after_in catalogue word marks (login row word (a ++ b)).ended) → Grows row word marks a b

  grows_at : (row : LoginRow) (word : KeyWord) (marks : List Bool) (a b : List ℕ) (o : End Way Reason) → (login row word a).ended ≡ o → Grows row word marks a b
  grows_at row word marks a b Unfinished e = not_done (ap (after_in catalogue word marks) e) (login_front row word a b)
  grows_at row word marks a b (Passed way left) e =
      let p = login_passed row word a b way left e in
      is_done p.0 (subst (λ (o : End Way Reason). IsFront (after_in catalogue word marks o) (after_in catalogue word marks (login row word (a ++ b)).ended)) (sym e)
      (subst (λ (o : End Way Reason). IsFront (after_in catalogue word marks (Passed way left)) (after_in catalogue word marks o)) (sym p.1) (way_front word marks way left b)))
  grows_at row word marks a b (Stopped reason) e =
      let p = login_stopped row word a b reason e in
      is_done (ap (λ (d : _). d.pieces) p) (front_of (ap (λ (d : _). after_in catalogue word marks d.ended) (sym p)))

  pub grows : (row : LoginRow) (word : KeyWord) (marks : List Bool) (a b : List ℕ) → Grows row word marks a b
  grows row word marks a b = grows_at row word marks a b (login row word a).ended refl

  whole_front : (row : LoginRow) (word : KeyWord) (marks : List Bool) (a b : List ℕ) → Grows row word marks a b → IsFront (solo_in catalogue row word marks a) (solo_in catalogue row word marks (a ++ b))
  whole_front row word marks a b (not_done none f) =
      front_trans (front_of (ap (λ (l : List (List ℕ)). (login row word a).pieces ++ l) none ∙ append-nil (login row word a).pieces)) (front_trans f (front_append _ _))
  whole_front row word marks a b (is_done same f) =
      front_trans (front_under (login row word a).pieces f) (front_of (ap (λ (l : List (List ℕ)). l ++ after_in catalogue word marks (login row word (a ++ b)).ended) (sym same)))

  pub solo_front : (row : LoginRow) (word : KeyWord) (marks : List Bool) (a b : List ℕ) → IsFront (solo_in catalogue row word marks a) (solo_in catalogue row word marks (a ++ b))
  solo_front row word marks a b = whole_front row word marks a b (grows row word marks a b)

-- what is allowed of some pieces is allowed of more
pub allowed_more : {out : List ℕ} {ps qs : List (List ℕ)} → IsFront ps qs → Allowed out ps → Allowed out qs
allowed_more {out} f (inl h) = let j = front_trans (record { rest = h.more; is = h.both }) (front_joined f) in inl (record { more = j.rest; both = j.is })
allowed_more {out} {ps} {qs} f (inr h) = let j : IsFront h.given qs = front_trans (record { rest = h.kept; is = h.pieces_are }) f in
    inr (record { given = h.given; kept = j.rest; pieces_are = j.is; cause = h.cause; last = h.last; begins = h.begins; out_is = h.out_is })
