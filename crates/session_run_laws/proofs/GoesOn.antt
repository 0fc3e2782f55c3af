-- A list of frames is answered frame by frame.
use Rattle.std.proofs.Common.{◌≡◌, ℕ, zero, suc, Bool, true, false, List, [], ◌∷◌, ◌++◌, length, refl, sym, ap, ap₂, ◌∙◌, append_assoc, append-nil, arith}
use Rattle.std.specs.Prelude.{◌||◌}
use Rattle.std.proofs.lemmas.Bool.{true≢false}
use Rattle.frame_view.specs.Frames.{FrameOf}
use Rattle.session_values.specs.State.{State, CatalogueOf, Answer, and_then}
use Rattle.session_values.specs.Step.{step, first_mark, later_marks, marks_after, has_mark, is_marked, run_frames}
use Rattle.session_run_laws.specs.Runs.{RunsGoOn, RunsEnd, AreSameMarks, RunsByMarks}

-- these replies before an answer
abbrev before : List FrameOf → Answer → Answer
before rs a = record { next = a.next; replies = rs ++ a.replies }

before-before : (rs qs : List FrameOf) (a : Answer) → before rs (before qs a) ≡ before (rs ++ qs) a
before-before rs qs a = ap (λ (t : List FrameOf). record { next = a.next; replies = t }) (sym (append_assoc rs qs a.replies))

pub runs-go_on : RunsGoOn
unfolding run_frames
runs-go_on cat s marks [] gs = refl
runs-go_on cat s marks (f ∷ fs) gs =
    let a : Answer = step cat s (first_mark marks) f in
    let b : Answer = run_frames cat a.next (later_marks marks) fs in
    ap (before a.replies) (runs-go_on cat a.next (later_marks marks) fs gs)
    ∙ before-before a.replies b.replies (run_frames cat b.next (marks_after fs (later_marks marks)) gs)

pub runs-by_marks : RunsByMarks
unfolding run_frames
runs-by_marks cat s marks others [] same = refl
runs-by_marks cat s marks others (f ∷ fs) same =
    ap (λ (m : Bool). and_then (step cat s m f) (λ t. run_frames cat t (later_marks marks) fs)) (same 0)
    ∙ ap (before (step cat s (first_mark others) f).replies) (runs-by_marks cat (step cat s (first_mark others) f).next (later_marks marks) (later_marks others) fs (λ i. same (suc i)))

-- where no frame is struck, it is as good as no marks
or_parts : (a b : Bool) → (a || b) ≡ false → (a ≡ false) × (b ≡ false)
or_parts true b e = absurd (true≢false e)
or_parts false b e = (refl, e)

none_marked : (i : ℕ) → is_marked [] i ≡ false
none_marked zero = refl
none_marked (suc i) = none_marked i

unmarked_at : (marks : List Bool) (i : ℕ) → has_mark marks ≡ false → is_marked marks i ≡ false
unmarked_at [] i e = none_marked i
unmarked_at (m ∷ ms) zero e = (or_parts m (has_mark ms) e).0
unmarked_at (m ∷ ms) (suc i) e = unmarked_at ms i (or_parts m (has_mark ms) e).1

pub unmarked_same : (marks : List Bool) → has_mark marks ≡ false → AreSameMarks marks []
unmarked_same marks e i = unmarked_at marks i e ∙ sym (none_marked i)

pub unmarked_run : (cat : CatalogueOf) (s : State) (marks : List Bool) (fs : List FrameOf) → has_mark marks ≡ false → run_frames cat s marks fs ≡ run_frames cat s [] fs
unmarked_run cat s marks fs e = runs-by_marks cat s marks [] fs (unmarked_same marks e)

-- one frame more
behind_all : (ms : List Bool) (m : Bool) (fs : List FrameOf) → length ms ≡ length fs → marks_after fs (ms ++ m ∷ []) ≡ m ∷ []
behind_all [] m [] e = refl
behind_all [] m (f ∷ fs) e = absurd (omega (arith, e))
behind_all (n ∷ ms) m [] e = absurd (omega (arith, e))
behind_all (n ∷ ms) m (f ∷ fs) e = behind_all ms m fs (omega (arith, e))

front_marks : (cat : CatalogueOf) (s : State) (ms : List Bool) (m : Bool) (fs : List FrameOf) → length ms ≡ length fs → run_frames cat s (ms ++ m ∷ []) fs ≡ run_frames cat s ms fs
unfolding run_frames
front_marks cat s [] m [] e = refl
front_marks cat s [] m (f ∷ fs) e = absurd (omega (arith, e))
front_marks cat s (n ∷ ms) m [] e = absurd (omega (arith, e))
front_marks cat s (n ∷ ms) m (f ∷ fs) e = ap (before (step cat s n f).replies) (front_marks cat (step cat s n f).next ms m fs (omega (arith, e)))

one_step : (cat : CatalogueOf) (s : State) (m : Bool) (f : FrameOf) → run_frames cat s (m ∷ []) (f ∷ []) ≡ step cat s m f
unfolding run_frames
one_step cat s m f = ap (λ (rs : List FrameOf). record { next = (step cat s m f).next; replies = rs }) (append-nil (step cat s m f).replies)

pub runs-end : RunsEnd
runs-end cat s ms m fs f e =
    runs-go_on cat s (ms ++ m ∷ []) fs (f ∷ [])
    ∙ ap₂ (λ (a : Answer) (ns : List Bool). and_then a (λ t. run_frames cat t ns (f ∷ []))) (front_marks cat s ms m fs e) (behind_all ms m fs e)
    ∙ ap (before (run_frames cat s ms fs).replies) (one_step cat (run_frames cat s ms fs).next m f)
