-- Where a name stands among the start's reports, and what is kept of it.
use Rattle.std.proofs.Common.{◌≡◌, ℕ, suc, ◌<◌, ◌≤◌, Bool, true, false, List, [], ◌∷◌, ◌++◌, length, refl, ap, sym, subst, ◌∙◌, slice_set, slice_index_or, arith}
use Rattle.std.specs.Prelude.{◌||◌, nat_lt, bytes_eq, if◌then◌else◌}
use Rattle.std.proofs.lemmas.Bool.{false≢true, ltb-false, ltb-true, le-ltb, lt-ltb}
use Rattle.start_keys.specs.StartPairs.{Text}
use Rattle.param_track.specs.Reports.{Report}
use Rattle.param_track.specs.KeptReports.{KeptReport, has_name, first_told, with_first, told, with_told, place_of, put_at}

has_at-by : (name : Text) (kept : List KeptReport) (b : Bool) → nat_lt (place_of name kept) (length kept) ≡ b → has_name kept name ≡ b
has_at-by name [] true e = absurd (omega (arith, ltb-true 0 0 e))
has_at-by name [] false e = refl
has_at-by name (k ∷ kept) b e = go (bytes_eq k.name name) b e (has_at-by name kept)
  where
    go : (same b : Bool) → nat_lt (if same then 0 else suc (place_of name kept)) (suc (length kept)) ≡ b → ((c : Bool) → nat_lt (place_of name kept) (length kept) ≡ c → has_name kept name ≡ c) → (same || has_name kept name) ≡ b
    go true true o ih = refl
    go true false o ih = absurd (omega (arith, ltb-false 0 (suc (length kept)) o))
    go false true o ih = ih true (lt-ltb (place_of name kept) (length kept) (omega (arith, ltb-true (suc (place_of name kept)) (suc (length kept)) o)))
    go false false o ih = ih false (le-ltb (place_of name kept) (length kept) (omega (arith, ltb-false (suc (place_of name kept)) (suc (length kept)) o)))

-- a name is there just where its place is
pub has_at : (name : Text) (kept : List KeptReport) → has_name kept name ≡ nat_lt (place_of name kept) (length kept)
has_at name kept = has_at-by name kept (nat_lt (place_of name kept) (length kept)) refl

pub has_there : (name : Text) (kept : List KeptReport) → has_name kept name ≡ true → place_of name kept < length kept
has_there name kept e = ltb-true (place_of name kept) (length kept) (sym (has_at name kept) ∙ e)

told_at : (kept : List KeptReport) (r : Report) (d : KeptReport) → place_of r.0 kept < length kept → with_told kept r ≡ slice_set kept (place_of r.0 kept) (told (slice_index_or kept (place_of r.0 kept) d) r.1)
told_at [] r d less = absurd (omega (arith, less))
told_at (k ∷ kept) r d less = go (bytes_eq k.name r.0) less (told_at kept r d)
  where
    go : (b : Bool) → (if b then 0 else suc (place_of r.0 kept)) < suc (length kept) → (place_of r.0 kept < length kept → with_told kept r ≡ slice_set kept (place_of r.0 kept) (told (slice_index_or kept (place_of r.0 kept) d) r.1)) →
        (if b then told k r.1 ∷ kept else k ∷ with_told kept r) ≡ slice_set (k ∷ kept) (if b then 0 else suc (place_of r.0 kept)) (told (slice_index_or (k ∷ kept) (if b then 0 else suc (place_of r.0 kept)) d) r.1)
    go true l ih = refl
    go false l ih = ap (λ (ks : List KeptReport). k ∷ ks) (ih (omega (arith, l)))

pub tell_is : (kept : List KeptReport) (r : Report) (place : ℕ) (k other : KeptReport) → place ≡ place_of r.0 kept → place < length kept → k ≡ slice_index_or kept place k → other ≡ told k r.1 → slice_set kept place other ≡ with_told kept r
tell_is kept r place k other at less here is =
    ap (slice_set kept place) (is ∙ ap (λ (x : KeptReport). told x r.1) here)
    ∙ ap (λ (i : ℕ). slice_set kept i (told (slice_index_or kept i k) r.1)) at
    ∙ sym (told_at kept r k (subst (λ (i : ℕ). i < length kept) at less))

pub told_none : (kept : List KeptReport) (r : Report) → has_name kept r.0 ≡ false → with_told kept r ≡ kept
told_none [] r e = refl
told_none (k ∷ kept) r e = go (bytes_eq k.name r.0) e (told_none kept r)
  where
    go : (b : Bool) → (b || has_name kept r.0) ≡ false → (has_name kept r.0 ≡ false → with_told kept r ≡ kept) → (if b then told k r.1 ∷ kept else k ∷ with_told kept r) ≡ k ∷ kept
    go true o ih = absurd (false≢true (sym o))
    go false o ih = ap (λ (ks : List KeptReport). k ∷ ks) (ih o)

pub first_there : (kept : List KeptReport) (r : Report) → place_of r.0 kept < length kept → with_first kept r ≡ slice_set kept (place_of r.0 kept) (first_told r)
first_there [] r less = absurd (omega (arith, less))
first_there (k ∷ kept) r less = go (bytes_eq k.name r.0) less (first_there kept r)
  where
    go : (b : Bool) → (if b then 0 else suc (place_of r.0 kept)) < suc (length kept) → (place_of r.0 kept < length kept → with_first kept r ≡ slice_set kept (place_of r.0 kept) (first_told r)) →
        (if b then first_told r ∷ kept else k ∷ with_first kept r) ≡ slice_set (k ∷ kept) (if b then 0 else suc (place_of r.0 kept)) (first_told r)
    go true l ih = refl
    go false l ih = ap (λ (ks : List KeptReport). k ∷ ks) (ih (omega (arith, l)))

pub first_new : (kept : List KeptReport) (r : Report) → length kept ≤ place_of r.0 kept → with_first kept r ≡ kept ++ first_told r ∷ []
first_new [] r end = refl
first_new (k ∷ kept) r end = go (bytes_eq k.name r.0) end (first_new kept r)
  where
    go : (b : Bool) → suc (length kept) ≤ (if b then 0 else suc (place_of r.0 kept)) → (length kept ≤ place_of r.0 kept → with_first kept r ≡ kept ++ first_told r ∷ []) →
        (if b then first_told r ∷ kept else k ∷ with_first kept r) ≡ k ∷ (kept ++ first_told r ∷ [])
    go true e ih = absurd (omega (arith, e))
    go false e ih = ap (λ (ks : List KeptReport). k ∷ ks) (ih (omega (arith, e)))

pub first_at : (kept : List KeptReport) (r : Report) → with_first kept r ≡ put_at (place_of r.0 kept) (first_told r) kept
first_at kept r = by (nat_lt (place_of r.0 kept) (length kept)) refl
  where
    by : (b : Bool) → nat_lt (place_of r.0 kept) (length kept) ≡ b → with_first kept r ≡ (if b then slice_set kept (place_of r.0 kept) (first_told r) else kept ++ first_told r ∷ [])
    by true e = first_there kept r (ltb-true (place_of r.0 kept) (length kept) e)
    by false e = first_new kept r (ltb-false (place_of r.0 kept) (length kept) e)
