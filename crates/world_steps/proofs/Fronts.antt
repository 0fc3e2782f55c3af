-- Fronts of lists, joined pieces, and the replies to lists of frames in a row.
use Rattle.std.proofs.Common.{◌≡◌, ℕ, Bool, List, [], ◌∷◌, ◌++◌, length, refl, sym, ap, ◌∙◌, append_assoc, append-nil, arith}
use Rattle.std.specs.Prelude.{map}
use Rattle.std.specs.List.{flat_map}
use Rattle.std.proofs.lemmas.Grind.{flat_map-append}
use Rattle.frame_view.specs.Frames.{FrameOf, spelling}
use Rattle.message_view.specs.Refusals.{joined_pieces}
use Rattle.session_values.specs.State.{Answer, CatalogueOf, State}
use Rattle.session_values.specs.Step.{marks_after, run_frames}
use Rattle.session_run_laws.proofs.ByName.{runs_go_on}
use Rattle.world_steps.specs.Relation.{IsFront}

pub front_refl : {A : Type 0} (xs : List A) → IsFront xs xs
front_refl xs = record { rest = []; is = append-nil xs }

pub front_nil : {A : Type 0} (xs : List A) → IsFront [] xs
front_nil xs = record { rest = xs; is = refl }

pub front_append : {A : Type 0} (xs ys : List A) → IsFront xs (xs ++ ys)
front_append xs ys = record { rest = ys; is = refl }

pub front_trans : {A : Type 0} {xs ys zs : List A} → IsFront xs ys → IsFront ys zs → IsFront xs zs
front_trans {A} {xs} {ys} {zs} f g = record { rest = f.rest ++ g.rest; is = sym (append_assoc xs f.rest g.rest) ∙ ap (λ (l : List A). l ++ g.rest) f.is ∙ g.is }

-- what stands before a front's end is a front
pub front_cut : {A : Type 0} (xs ys : List A) {zs : List A} → IsFront (xs ++ ys) zs → IsFront xs zs
front_cut xs ys f = front_trans (front_append xs ys) f

pub front_under : {A : Type 0} (xs : List A) {ys zs : List A} → IsFront ys zs → IsFront (xs ++ ys) (xs ++ zs)
front_under {A} xs {ys} {zs} f = record { rest = f.rest; is = append_assoc xs ys f.rest ∙ ap (λ (l : List A). xs ++ l) f.is }

pub front_of : {A : Type 0} {xs ys : List A} → xs ≡ ys → IsFront xs ys
front_of {A} {xs} {ys} e = record { rest = []; is = append-nil xs ∙ e }

pub front_is : {A : Type 0} {xs ys zs : List A} → xs ≡ ys → IsFront ys zs → IsFront xs zs
front_is e f = front_trans (front_of e) f

pub joined-append : (ps qs : List (List ℕ)) → joined_pieces (ps ++ qs) ≡ joined_pieces ps ++ joined_pieces qs
joined-append ps qs = flat_map-append (λ (p : List ℕ). p) ps qs

pub front_joined : {ps qs : List (List ℕ)} → IsFront ps qs → IsFront (joined_pieces ps) (joined_pieces qs)
front_joined {ps} {qs} f = record { rest = joined_pieces f.rest; is = sym (joined-append ps f.rest) ∙ ap joined_pieces f.is }

-- frames as pieces
pub joined-frames : (fs : List FrameOf) → joined_pieces (map spelling fs) ≡ flat_map spelling fs
joined-frames [] = refl
joined-frames (f ∷ fs) = ap (λ (l : List ℕ). spelling f ++ l) (joined-frames fs)

pub frames-append : (fs gs : List FrameOf) → map spelling (fs ++ gs) ≡ map spelling fs ++ map spelling gs
frames-append [] gs = refl
frames-append (f ∷ fs) gs = ap (λ (l : List (List ℕ)). spelling f ∷ l) (frames-append fs gs)

pub front_frames : {fs gs : List FrameOf} → IsFront fs gs → IsFront (map spelling fs) (map spelling gs)
front_frames {fs} {gs} f = record { rest = map spelling f.rest; is = sym (frames-append fs f.rest) ∙ ap (map spelling) f.is }

pub spelled-append : (fs gs : List FrameOf) → flat_map spelling (fs ++ gs) ≡ flat_map spelling fs ++ flat_map spelling gs
spelled-append fs gs = flat_map-append spelling fs gs

pub front_spelled : {fs gs : List FrameOf} → IsFront fs gs → IsFront (flat_map spelling fs) (flat_map spelling gs)
front_spelled {fs} {gs} f = record { rest = flat_map spelling f.rest; is = sym (spelled-append fs f.rest) ∙ ap (flat_map spelling) f.is }

-- marks of frames alone leave none for those behind
pub none_left : (fs : List FrameOf) (marks : List Bool) → length marks ≡ length fs → marks_after fs marks ≡ []
none_left [] [] e = refl
none_left [] (m ∷ marks) e = absurd (omega (arith, e))
none_left (f ∷ fs) [] e = absurd (omega (arith, e))
none_left (f ∷ fs) (m ∷ marks) e = none_left fs marks (omega (arith, e))

pub replies-append : (cat : CatalogueOf) (s : State) (marks : List Bool) (fs gs : List FrameOf) →
    (run_frames cat s marks (fs ++ gs)).replies ≡ (run_frames cat s marks fs).replies ++ (run_frames cat (run_frames cat s marks fs).next (marks_after fs marks) gs).replies
replies-append cat s marks fs gs = ap (λ (a : Answer). a.replies) (runs_go_on cat s marks fs gs)
