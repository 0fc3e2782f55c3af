-- What the moves of a fixed buffer do to what contracts see of it.
use Rattle.std.proofs.Common.{◌≡◌, ℕ, zero, suc, ◌+◌, ◌-◌, ◌≤◌, ◌<◌, ◌≢◌, true, false, List, [], ◌∷◌, ◌++◌, length, take, drop, refl, sym, ap, ap₂, ◌∙◌, arith, length-drop, length-take-le, take-add, take-append-drop, append-nil, eqb-true, subst, inl, inr}
use Rattle.std.specs.List.{slice_range, copy_within}
use Rattle.std.proofs.Math.Seq.{drop-append_seam, take-append_seam}
use Rattle.std.proofs.lemmas.List.Edits.{take-paste}
use Rattle.std.proofs.lemmas.List.{take-append-le}
use Rattle.std.proofs.lemmas.Bool.{true≢false, false≢true}
use Rattle.bytes.proofs.Ranges.{drop-slice_range, slice_range_front, slice_range-slice_range, slice_range_grown, take-append_past}
use Rattle.std.specs.Prelude.{◌==◌, ◌⊎◌, Option, Some, Ok}
use Rattle.frame_view.specs.declared.Side.{Side}
use Rattle.frame_view.specs.declared.Side.TheVariants.{Client, Server}
use Rattle.frame_view.specs.Frames.{AreBytes}
use Rattle.frame_view.specs.declared.client.TheConstants.{TERMINATE}
use Rattle.server_end.specs.declared.Moved.{Moved}
use Rattle.server_end.specs.declared.Moved.TheVariants.{Count, NotNow, Ended, Fault}
use Rattle.server_end.specs.Moves.{moved}
use Rattle.server_end.proofs.NoneMoved.{none_moved}
use Rattle.relay_flow.specs.declared.parts.Advance.{Advance}
use Rattle.relay_flow.specs.Parts.{Begins, Opens, Spells, Advances, GoesOn}
use Rattle.relay_flow.specs.declared.flow.Ends.{Ends}
use Rattle.relay_flow.specs.declared.flow.TheConstants.{ROOM}
use Rattle.relay_flow.specs.declared.flow.Passed.{Passed}
use Rattle.relay_flow.specs.Flows.{FlowView, SameCursor, came, count_of, Fills, Passes, is_last, AtTerminate, IsPositive}

abbrev pub flow_view : List ℕ → ℕ → ℕ → ℕ → ℕ → ℕ → Side → ℕ → Ends → FlowView
flow_view xs s p f k r sd lm en = record { held = slice_range xs s p; part = slice_range xs p f; room = ROOM - f; kind = k; rest = r; side = sd; limit = lm; ends = en }

short : (n : ℕ) (xs : List ℕ) → length (take n xs) ≤ n
short zero xs = omega arith
short (suc n) [] = omega arith
short (suc n) (x ∷ xs) = let h : length (take n xs) ≤ n = short n xs in omega (arith, h)

take-less : (n m : ℕ) (xs : List ℕ) → n ≤ m → take n (take m xs) ≡ take n xs
take-less zero m xs h = refl
take-less (suc n) zero xs h = absurd (omega arith)
take-less (suc n) (suc m) [] h = refl
take-less (suc n) (suc m) (x ∷ xs) h = ap (λ (l : List ℕ). x ∷ l) (take-less n m xs (omega (arith, h)))

pub wrote_held : (held xs : List ℕ) (s p c : ℕ) → slice_range xs s p ≡ held → s ≤ p → c ≤ length held → slice_range xs (s + c) p ≡ drop c held
wrote_held held xs s p c e l h =
    let a : length (slice_range xs s p) ≤ p - s = short (p - s) (drop s xs) in
    let b : length held ≡ length (slice_range xs s p) = ap length (sym e) in
    sym (drop-slice_range xs s p c (omega (arith, a, b, h, l))) ∙ ap (drop c) e

moved_range : (old new : List ℕ) (st n a b : ℕ) → take n new ≡ slice_range old st (st + n) → a ≤ b → b ≤ n → slice_range new a b ≡ slice_range old (st + a) (st + b)
moved_range old new st n a b e l m =
    sym (slice_range_front (slice_range old st (st + n)) new a b n e m) ∙ slice_range-slice_range old st (st + n) a b l (omega arith)

pub compacted : (part old new : List ℕ) (st p f : ℕ) → new ≡ copy_within old st f 0 → st ≤ p → p ≤ f → f ≤ length old → slice_range old p f ≡ part → slice_range new (p - st) (f - st) ≡ part
compacted part old new st p f c a b l e =
    let i : st + (f - st) ≡ f = omega arith in
    let j : st + (p - st) ≡ p = omega arith in
    let z : 0 + (f - st) ≡ f - st = omega arith in
    let d : length (drop st old) ≡ length old - st = length-drop st old in
    let t : take (f - st) new ≡ slice_range old st (st + (f - st)) =
    rw i (ap (λ n. take n new) (sym z) ∙ (ap (take (0 + (f - st))) c ∙ take-paste old 0 (drop st old) (f - st) (omega arith) (omega (arith, d)))) in
    let m : slice_range new (p - st) (f - st) ≡ slice_range old (st + (p - st)) (st + (f - st)) = moved_range old new st (f - st) (p - st) (f - st) t (omega arith) (omega arith) in
    m ∙ (ap₂ (slice_range old) j i ∙ e)

-- a read
front_same : (xs more : List ℕ) (f : ℕ) → f ≤ length xs → take f (take f xs ++ more) ≡ take f xs
front_same xs more f l =
    let a : length (take f xs) ≡ f = length-take-le f xs l in
    ap (λ n. take n (take f xs ++ more)) (sym a) ∙ take-append_seam (take f xs) more

held_same : (xs more : List ℕ) (s p f : ℕ) → p ≤ f → f ≤ length xs → slice_range (take f xs ++ more) s p ≡ slice_range xs s p
held_same xs more s p f l h =
    sym (slice_range_front (take f xs) (take f xs ++ more) s p f (front_same xs more f h) l) ∙ slice_range_front (take f xs) xs s p f refl l

part_grown : (xs into post : List ℕ) (p f c : ℕ) → p ≤ f → f ≤ length xs → c ≤ length into → slice_range (take f xs ++ (into ++ post)) p (f + c) ≡ slice_range xs p f ++ take c into
part_grown xs into post p f c l h w =
    let a : length (take f xs) ≡ f = length-take-le f xs h in
    slice_range_grown xs (take f xs ++ (into ++ post)) (take c into) p f (f + c) l h
    (take-append_past (take f xs) (into ++ post) c (f + c) (omega (arith, a)) ∙ ap (λ ys. take f xs ++ ys) (take-append-le c into post w))

pub came_is : (v w : FlowView) (got : List ℕ) → w.part ≡ v.part ++ got → came v w ≡ got
came_is v w got e = ap (drop (length v.part)) e ∙ drop-append_seam v.part got

fills_of : (v w : FlowView) (got : List ℕ) (m : Moved) → w.held ≡ v.held → w.part ≡ v.part ++ got → length got ≡ count_of m → SameCursor v w → Fills v w m
fills_of v w got m h e l s =
    let c : came v w ≡ got = came_is v w got e in
    record { held = h; part = e ∙ ap (λ x. v.part ++ x) (sym c); count = ap length c ∙ l; cursor = s }

none_counted : (m : Moved) → ((n : ℕ) → m ≡ Count n → ⊥) → count_of m ≡ 0
none_counted (Count n) h = absurd (h n refl)
none_counted NotNow h = refl
none_counted Ended h = refl
none_counted Fault h = refl

pub record Read (v w : FlowView) (got : List ℕ) (m : Moved) : Type 0 where
  pub fills : Fills v w m
  pub came_is : got ≡ came v w

pub fills_by : (v : FlowView) (xs ys zs into post : List ℕ) (s p f c k r : ℕ) (sd : Side) (lm : ℕ) (en : Ends) (m : Moved) → flow_view xs s p f k r sd lm en ≡ v → ys ≡ xs → zs ≡ take f ys ++ (into ++ post)
    → p ≤ f → f ≤ length xs → c ≤ length into → count_of m ≡ c
    → Read v (flow_view zs s p (f + c) k r sd lm en) (take c into) m
fills_by v xs ys zs into post s p f c k r sd lm en m e y x l h w n =
    subst (λ (u : FlowView). Read u (flow_view zs s p (f + c) k r sd lm en) (take c into) m) e
    (rw (x, y) (let q : slice_range (take f xs ++ (into ++ post)) p (f + c) ≡ slice_range xs p f ++ take c into = part_grown xs into post p f c l h w in
    record {
      fills = fills_of (flow_view xs s p f k r sd lm en) (flow_view (take f xs ++ (into ++ post)) s p (f + c) k r sd lm en) (take c into) m (held_same xs (into ++ post) s p f l h) q (length-take-le c into w ∙ sym n) (record { kind = refl; rest = refl; side = refl; limit = refl; ends = refl });
      came_is = sym (came_is (flow_view xs s p f k r sd lm en) (flow_view (take f xs ++ (into ++ post)) s p (f + c) k r sd lm en) (take c into) q);
    }))

pub fills_none : (v : FlowView) (xs ys zs into post : List ℕ) (s p f k r : ℕ) (sd : Side) (lm : ℕ) (en : Ends) (m : Moved) → flow_view xs s p f k r sd lm en ≡ v → ys ≡ xs → zs ≡ take f ys ++ (into ++ post)
    → p ≤ f → f ≤ length xs → ((n : ℕ) → m ≡ Count n → ⊥)
    → Read v (flow_view zs s p f k r sd lm en) (moved m into) m
fills_none v xs ys zs into post s p f k r sd lm en m e y x l h n =
    subst (λ (u : FlowView). Read u (flow_view zs s p f k r sd lm en) (moved m into) m) e
    (rw (x, y) (let q : slice_range (take f xs ++ (into ++ post)) p f ≡ slice_range xs p f ++ moved m into = held_same xs (into ++ post) p f f (omega arith) h ∙ (sym (append-nil (slice_range xs p f)) ∙ ap (λ z. slice_range xs p f ++ z) (sym (none_moved m into n))) in
    record {
      fills = fills_of (flow_view xs s p f k r sd lm en) (flow_view (take f xs ++ (into ++ post)) s p f k r sd lm en) (moved m into) m (held_same xs (into ++ post) s p f l h) q (ap length (none_moved m into n) ∙ sym (none_counted m n)) (record { kind = refl; rest = refl; side = refl; limit = refl; ends = refl });
      came_is = sym (came_is (flow_view xs s p f k r sd lm en) (flow_view (take f xs ++ (into ++ post)) s p f k r sd lm en) (moved m into) q);
    }))

pub positive_none : (m : Moved) → ((n : ℕ) → m ≡ Count n → ⊥) → IsPositive m
positive_none (Count k) h = absurd (h k refl)
positive_none NotNow h = tt
positive_none Ended h = tt
positive_none Fault h = tt

-- a step of the cursor
positive : (n : ℕ) → (n == 0) ≡ false → 0 < n
positive zero h = absurd (true≢false h)
positive (suc n) h = omega arith

abbrev passed_of : Advance → Passed
passed_of a = record { kind = a.kind; count = a.count; status = a.status; is_foreign = a.is_foreign; whole = a.rest == 0 }

some_bytes : (n : ℕ) (bytes : List ℕ) → AreBytes bytes → AreBytes (take n bytes)
some_bytes zero bytes h i = omega arith
some_bytes (suc n) [] h i = h i
some_bytes (suc n) (b ∷ bytes) h zero = h zero
some_bytes (suc n) (b ∷ bytes) h (suc i) = some_bytes n bytes (λ j. h (suc j)) i

pub passes_by : (v : FlowView) (xs : List ℕ) (s p f k r : ℕ) (sd : Side) (lm : ℕ) (en : Ends) (a : Advance) → flow_view xs s p f k r sd lm en ≡ v
    → s ≤ p → p ≤ f → f ≤ length xs → (v.side ≡ Client → a.kind ≢ TERMINATE) → AreBytes v.part
    → Advances v.side v.limit v.part v.kind v.rest a
    → Passes v (flow_view xs s (p + a.count) f a.kind a.rest sd lm en) (passed_of a)
passes_by v xs s p f k r sd lm en a e x y l g h d =
    let n : ℕ = a.count in
    let w : n ≤ length v.part = d.within in
    let part : v.part ≡ slice_range xs p f = ap (λ (u : FlowView). u.part) (sym e) in
    let held : v.held ≡ slice_range xs s p = ap (λ (u : FlowView). u.held) (sym e) in
    let z : length (slice_range xs p f) ≤ f - p = short (f - p) (drop p xs) in
    let j : length v.part ≡ length (slice_range xs p f) = ap length part in
    let q : drop n v.part ≡ slice_range xs (p + n) f = ap (drop n) part ∙ drop-slice_range xs p f n (omega (arith, z, j, w)) in
    let t : take n v.part ≡ take n (drop p xs) = ap (take n) part ∙ take-less n (f - p) (drop p xs) (omega (arith, z, j, w)) in
    let u : slice_range xs s (p + n) ≡ slice_range xs s p ++ take n v.part =
    slice_range_grown xs xs (take n v.part) s p (p + n) x (omega arith) (take-add p n xs ∙ ap (λ (b : List ℕ). take p xs ++ b) (sym t)) in
    record {
      bytes = take n v.part;
      are_bytes = some_bytes n v.part h;
      some = let m : length (take n v.part) ≡ n = length-take-le n v.part w in omega (arith, m, d.some);
      held = u ∙ ap (λ (b : List ℕ). b ++ take n v.part) (sym held);
      part = sym (take-append-drop n v.part) ∙ ap (λ (b : List ℕ). take n v.part ++ b) q;
      side = ap (λ (b : FlowView). b.side) e;
      limit = ap (λ (b : FlowView). b.limit) e;
      ends = ap (λ (b : FlowView). b.ends) e;
      border = λ b. eqb-true a.rest 0 b;
      count = sym (length-take-le n v.part w);
      goes_on = g;
      at_once = d.at_once;
      opens = λ b. d.opens (positive a.rest b);
      spells = λ b. d.spells (eqb-true a.rest 0 b);
    }

-- a Terminate at the front
no_tail : (side : Side) (limit kind : ℕ) → Opens side limit [] kind 0
no_tail side limit kind = record { border = λ e. refl; inside = λ h. absurd (omega (arith, h)) }

pub at_last : (side : Side) (limit : ℕ) (part : List ℕ) (kind : ℕ) (a : Advance) → Advances side limit part kind 0 a → is_last side a.kind ≡ true → AtTerminate side limit part
at_last side limit part kind a d e = record {
  count = a.count;
  missing = a.rest;
  status = a.status;
  foreign = a.is_foreign;
  kind = a.kind;
  is_terminate = e;
  begins = by (a.rest) refl;
}
  where
    by : (n : ℕ) → n ≡ a.rest → Begins side limit (take a.count part) a.kind a.rest ⊎ Spells side limit (take a.count part) a.kind a.status a.is_foreign
    by zero q = inr (d.spells (sym q) [] (no_tail side limit kind))
    by (suc n) q = inl ((d.opens (omega (arith, q)) [] (no_tail side limit kind)).inside (omega (arith, q)))

not_last : (side : Side) (kind : ℕ) → is_last side kind ≡ false → side ≡ Client → kind ≢ TERMINATE
not_last Client kind e h q = absurd (false≢true (sym e ∙ ap (λ (n : ℕ). n == TERMINATE) q))
not_last Server kind e h q = absurd (cc (h))

pub last_in : (v : FlowView) (sd : Side) (lm : ℕ) (part : List ℕ) (kind : ℕ) (a : Advance) → v.side ≡ sd → v.limit ≡ lm → v.part ≡ part → v.rest ≡ 0 → (o : Option Advance) → o ≡ Some a → GoesOn sd lm part kind (Ok o) → is_last sd a.kind ≡ true → (v.rest ≡ 0) × AtTerminate v.side v.limit v.part
last_in v sd lm part kind a s l p r o q d e = (r, rw (s, l, p) (at_last sd lm part kind a (subst (λ (x : Option Advance). GoesOn sd lm part kind (Ok x)) q d) e))
