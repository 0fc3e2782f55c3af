-- What the counts of what was sent and received say of the session.
use Rattle.std.proofs.Common.{◌≡◌, ℕ, ◌+◌, ◌≤◌, List, [], ◌∷◌, ◌++◌, refl, sym, ap, subst, ◌∙◌, append_assoc, append-nil, get_or, Bool, true, false, arith}
use Rattle.std.proofs.lemmas.Bool.{false≢true}
use Rattle.std.specs.Prelude.{if◌then◌else◌, ◌||◌, ◌==◌}
use Rattle.frame_view.specs.declared.server.TheConstants.{READY_FOR_QUERY}
use Rattle.message_view.specs.declared.kinds.TheConstants.{IDLE, IN_TRANSACTION, FAILED}
use Rattle.frame_view.specs.Frames.{FrameOf, is_closing}
use Rattle.message_view.specs.Messages.{ready_for_query}
use Rattle.session_values.specs.declared.block.Block.{Block}
use Rattle.session_values.specs.declared.block.Block.TheVariants.{Outside, Inside, Failed}
use Rattle.session_values.specs.State.{State, CatalogueOf, Answer, status}
use Rattle.session_values.specs.Step.{step, first_mark, later_marks, marks_after, run_frames}
use Rattle.session_laws.specs.Laws.{has_ready, IsAtRest, Ends, without_ready, with_ready}
use Rattle.session_run_laws.specs.Settling.{count, closes, is_ready, last_status, SettledIsQuiet}
use Rattle.session_run_laws.proofs.GoesOn.{runs-go_on}
use Rattle.session_laws.proofs.ByName.{each_step_ends}

count-append : (p : FrameOf → Bool) (xs ys : List FrameOf) → count p (xs ++ ys) ≡ count p xs + count p ys
count-append p [] ys = omega arith
count-append p (x ∷ xs) ys = let h = count-append p xs ys in by_test (p x) h
  where
    by_test : (b : Bool) → count p (xs ++ ys) ≡ count p xs + count p ys → (if b then 1 else 0) + count p (xs ++ ys) ≡ (if b then 1 else 0) + count p xs + count p ys
    by_test true h = omega (arith, h)
    by_test false h = omega (arith, h)

none-counted : (rs : List FrameOf) → has_ready rs ≡ false → count is_ready rs ≡ 0
none-counted [] h = refl
none-counted (r ∷ rs) h = by_test (r.kind == READY_FOR_QUERY) (has_ready rs) h (none-counted rs)
  where
    by_test : (b c : Bool) → (b || c) ≡ false → (c ≡ false → count is_ready rs ≡ 0) → (if b then 1 else 0) + count is_ready rs ≡ 0
    by_test true c h f = absurd cc
    by_test false c h f = omega (arith, f h)

-- a step's replies, with at most one ReadyForQuery
abbrev closing_of : ℕ → ℕ
closing_of kind = if is_closing kind then 1 else 0

ends-count : (kind : ℕ) (s : State) (rs : List FrameOf) → Ends kind s rs → count is_ready rs ≤ closing_of kind
ends-count kind s rs (without_ready h) = let n = none-counted rs h in omega (arith, n)
ends-count kind s _ (with_ready rs b c h e n k o r) =
    let a = count-append is_ready rs (ready_for_query (status b) ∷ []) in
    let z = none-counted rs h in
    let w : closing_of kind ≡ 1 = ap (λ (t : Bool). if t then 1 else 0) c in
    omega (arith, a, z, w)

step-count : (cat : CatalogueOf) (s : State) (struck : Bool) (f : FrameOf) → count is_ready (step cat s struck f).replies ≤ count closes (f ∷ [])
step-count cat s struck f = let h = ends-count f.kind (step cat s struck f).next (step cat s struck f).replies (each_step_ends cat s struck f) in omega (arith, h)

-- no more answers than were asked for
run-count : (cat : CatalogueOf) (s : State) (marks : List Bool) (fs : List FrameOf) → count is_ready (run_frames cat s marks fs).replies ≤ count closes fs
unfolding run_frames
run-count cat s marks [] = omega arith
run-count cat s marks (f ∷ fs) =
    let t : Answer = step cat s (first_mark marks) f in
    let a = count-append is_ready t.replies (run_frames cat t.next (later_marks marks) fs).replies in
    let b = step-count cat s (first_mark marks) f in
    let c = run-count cat t.next (later_marks marks) fs in
    omega (arith, a, b, c)

abbrev last_of : List FrameOf → FrameOf → FrameOf
last_of [] d = d
last_of (f ∷ fs) d = last_of fs f

last_of-snoc : (xs : List FrameOf) (z d : FrameOf) → last_of (xs ++ z ∷ []) d ≡ z
last_of-snoc [] z d = refl
last_of-snoc (x ∷ xs) z d = last_of-snoc xs z x

last_of-more : (xs : List FrameOf) (y : FrameOf) (ys : List FrameOf) (d : FrameOf) → last_of (xs ++ y ∷ ys) d ≡ last_of ys y
last_of-more [] y ys d = refl
last_of-more (x ∷ xs) y ys d = last_of-more xs y ys x

one_not : (b : Bool) (n : ℕ) → (if b then 1 else 0) + n ≡ 0 → b ≡ false
one_not true n h = absurd (omega (arith, h))
one_not false n h = refl

rest_none : (b : Bool) (n : ℕ) → (if b then 1 else 0) + n ≡ 0 → n ≡ 0
rest_none true n h = absurd (omega (arith, h))
rest_none false n h = omega (arith, h)

none_last : (p : FrameOf → Bool) (y : FrameOf) (ys : List FrameOf) → count p (y ∷ ys) ≡ 0 → p (last_of ys y) ≡ false
none_last p y [] h = one_not (p y) 0 h
none_last p y (x ∷ xs) h = none_last p x xs (rest_none (p y) (count p (x ∷ xs)) h)

-- after these comes nothing more that is counted, so nothing
nothing_more : (p : FrameOf → Bool) (xs ys before : List FrameOf) (final : FrameOf) → xs ++ ys ≡ before ++ final ∷ [] → p final ≡ true → count p ys ≡ 0 → ys ≡ []
nothing_more p xs [] before final e c n = refl
nothing_more p xs (g ∷ gs) before final e c n =
    let l : last_of gs g ≡ final = sym (last_of-more xs g gs final) ∙ (ap (λ (zs : List FrameOf). last_of zs final) e ∙ last_of-snoc before final final) in
    let f : p (last_of gs g) ≡ false = none_last p g gs n in
    absurd (false≢true (sym f ∙ (ap p l ∙ c)))

last_status-snoc : (xs : List FrameOf) (n : ℕ) (d : List ℕ) → last_status (xs ++ ready_for_query n ∷ []) d ≡ n ∷ []
last_status-snoc [] n d = refl
last_status-snoc (x ∷ xs) n d = last_status-snoc xs n (if is_ready x then x.body else d)

outside : (b : Block) → status b ∷ [] ≡ IDLE ∷ [] → b ≡ Outside
outside Outside e = refl
outside Inside e = absurd (let h : IN_TRANSACTION ≡ IDLE = ap (λ (l : List ℕ). get_or l 0 0) e in omega (arith, h))
outside Failed e = absurd (let h : FAILED ≡ IDLE = ap (λ (l : List ℕ). get_or l 0 0) e in omega (arith, h))

-- the answer to a last frame that was answered
record Answered (s : State) (rs : List FrameOf) : Type 0 where
  front : List FrameOf
  block : Block
  is : rs ≡ front ++ ready_for_query (status block) ∷ []
  rest : block ≡ Outside → IsAtRest s

answered : (kind : ℕ) (s : State) (rs : List FrameOf) → Ends kind s rs → count is_ready rs ≡ 1 → Answered s rs
answered kind s rs (without_ready h) n = absurd (let z = none-counted rs h in omega (arith, z, n))
answered kind s _ (with_ready rs b c h e d k o r) n = record { front = rs; block = b; is = refl; rest = o }

-- the last step of a run
abbrev last_step : CatalogueOf → State → List Bool → List FrameOf → FrameOf → Answer
last_step cat s marks before final = step cat (run_frames cat s marks before).next (first_mark (marks_after before marks)) final

module _ (cat : CatalogueOf) (s : State) (marks : List Bool) where
  last-run : (before : List FrameOf) (final : FrameOf) → (run_frames cat s marks (before ++ final ∷ [])).replies ≡ (run_frames cat s marks before).replies ++ (last_step cat s marks before final).replies
  unfolding run_frames
  last-run before final =
      ap (λ (a : Answer). a.replies) (runs-go_on cat s marks before (final ∷ []))
      ∙ ap (λ (l : List FrameOf). (run_frames cat s marks before).replies ++ l) (append-nil (last_step cat s marks before final).replies)

  last-next : (before : List FrameOf) (final : FrameOf) → (run_frames cat s marks (before ++ final ∷ [])).next ≡ (last_step cat s marks before final).next
  unfolding run_frames
  last-next before final = ap (λ (a : Answer). a.next) (runs-go_on cat s marks before (final ∷ []))

pub settled-quiet : SettledIsQuiet
settled-quiet cat s marks sent received taken left more a e r =
    let z : Answer = last_step cat s marks a.before a.final in
    let cs = ap (count closes) e ∙ count-append closes taken left in
    let cr = ap (count is_ready) r ∙ count-append is_ready received more in
    let q : count closes sent ≡ count is_ready received = a.equal in
    let u = run-count cat s marks taken in
    let nl : count closes left ≡ 0 = omega (arith, cs, cr, q, u) in
    let nm : count is_ready more ≡ 0 = omega (arith, cs, cr, q, u) in
    let el : left ≡ [] = nothing_more closes taken left a.before a.final (sym e ∙ a.last) a.closing nl in
    let ts : taken ≡ sent = sym (e ∙ (ap (λ (xs : List FrameOf). taken ++ xs) el ∙ append-nil taken)) in
    let tb : taken ≡ a.before ++ a.final ∷ [] = ts ∙ a.last in
    let lr : (run_frames cat s marks taken).replies ≡ (run_frames cat s marks a.before).replies ++ z.replies = ap (λ (xs : List FrameOf). (run_frames cat s marks xs).replies) tb ∙ last-run cat s marks a.before a.final in
    let c1 = ap (count is_ready) lr ∙ count-append is_ready (run_frames cat s marks a.before).replies z.replies in
    let c2 = ap (count closes) tb ∙ count-append closes a.before (a.final ∷ []) in
    let b1 = run-count cat s marks a.before in
    let b2 = step-count cat (run_frames cat s marks a.before).next (first_mark (marks_after a.before marks)) a.final in
    let one_final : count closes (a.final ∷ []) ≡ 1 = ap (λ (b : Bool). (if b then 1 else 0) + 0) a.closing in
    let one : count is_ready z.replies ≡ 1 = omega (arith, c1, c2, b1, b2, one_final, cs, cr, q, nl, nm) in
    let w : Answered z.next z.replies = answered a.final.kind z.next z.replies (each_step_ends cat (run_frames cat s marks a.before).next (first_mark (marks_after a.before marks)) a.final) one in
    let whole : received ++ more ≡ ((run_frames cat s marks a.before).replies ++ w.front) ++ ready_for_query (status w.block) ∷ [] =
    sym r ∙ lr ∙ ap (λ (l : List FrameOf). (run_frames cat s marks a.before).replies ++ l) w.is ∙ sym (append_assoc (run_frames cat s marks a.before).replies w.front (ready_for_query (status w.block) ∷ [])) in
    let em : more ≡ [] = nothing_more is_ready received more ((run_frames cat s marks a.before).replies ++ w.front) (ready_for_query (status w.block)) whole refl nm in
    let rr : received ≡ (run_frames cat s marks taken).replies = sym (r ∙ (ap (λ (xs : List FrameOf). received ++ xs) em ∙ append-nil received)) in
    let rf : received ≡ ((run_frames cat s marks a.before).replies ++ w.front) ++ ready_for_query (status w.block) ∷ [] = sym (append-nil received) ∙ (ap (λ (xs : List FrameOf). received ++ xs) (sym em) ∙ whole) in
    let st : status w.block ∷ [] ≡ IDLE ∷ [] = sym (last_status-snoc ((run_frames cat s marks a.before).replies ++ w.front) (status w.block) []) ∙ (sym (ap (λ (xs : List FrameOf). last_status xs []) rf) ∙ a.idle) in
    let same : (run_frames cat s marks sent).next ≡ z.next = ap (λ (xs : List FrameOf). (run_frames cat s marks xs).next) (a.last) ∙ last-next cat s marks a.before a.final in
    record {
      all = ts;
      none_left = el;
      none_more = em;
      answers = rr ∙ ap (λ (xs : List FrameOf). (run_frames cat s marks xs).replies) ts;
      rest = subst IsAtRest (sym same) (w.rest (outside w.block st));
    }
