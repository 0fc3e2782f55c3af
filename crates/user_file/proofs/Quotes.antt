-- Steps of a search for the closing quote.
use Rattle.std.proofs.Common.{◌≡◌, ◌≢◌, ◌+◌, ◌<◌, ◌≤◌, ◌==◌, ℕ, suc, true, false, cond, List, [], ◌∷◌, ◌++◌, length, take, drop, Option, Some, None, refl, sym, ap, ◌∙◌, arith, append_assoc, append-nil, eq-eqb}
use Rattle.std.specs.Prelude.{slice_index}
use Rattle.std.proofs.lemmas.Bool.{ne_eqb}
use Rattle.std.proofs.lemmas.List.{drop_all}
use Rattle.std.proofs.Math.Numerals.{add-one}
use Rattle.std.proofs.Math.Seq.{drop-cons, take-suc}
use Rattle.user_file.specs.Fields.{quoted, after}

after-after : (p q : List ℕ) (r : Option (List ℕ × List ℕ)) → after p (after q r) ≡ after (p ++ q) r
after-after p q None = refl
after-after p q (Some r) = ap (λ t. Some (t, r.1)) (sym (append_assoc p q r.0))

plain : (b : ℕ) (bs : List ℕ) → (b == 34) ≡ false → quoted (b ∷ bs) ≡ after (b ∷ []) (quoted bs)
unfolding quoted
plain b [] other = ap (λ t. cond t (Some ([], [])) None) other
plain b (c ∷ bs) other = ap (λ t. cond t (cond (c == 34) (after (b ∷ c ∷ []) (quoted bs)) (Some ([], c ∷ bs))) (after (b ∷ []) (quoted (c ∷ bs)))) other

doubled : (b c : ℕ) (bs : List ℕ) → (b == 34) ≡ true → (c == 34) ≡ true → quoted (b ∷ c ∷ bs) ≡ after (b ∷ c ∷ []) (quoted bs)
unfolding quoted
doubled b c bs one two = rw (one, two) refl

closes : (b : ℕ) (bs : List ℕ) → (b == 34) ≡ true → (slice_index bs 0 == 34) ≡ false → quoted (b ∷ bs) ≡ Some ([], bs)
unfolding quoted
closes b [] one two = rw one refl
closes b (c ∷ bs) one two = rw (one, two) refl

-- the search so far: what was passed, and the search from here
pub record IsSearched (text : List ℕ) (i : ℕ) : Type 0 where
  pub within : i ≤ length text
  pub same : after (take i text) (quoted (drop i text)) ≡ quoted text

pub searched-start : (text : List ℕ) → IsSearched text 0
searched-start text = record { within = omega arith; same = by (quoted text) }
  where
    by : (r : Option (List ℕ × List ℕ)) → after [] r ≡ r
    by None = refl
    by (Some r) = refl

module _ (text : List ℕ) (i : ℕ) (so_far : IsSearched text i) (more : i < length text) where
  here : drop i text ≡ slice_index text i ∷ drop (i + 1) text
  here = drop-cons text i 0 more ∙ ap (λ k. slice_index text i ∷ drop k text) (sym (add-one i))

  passed : take (i + 1) text ≡ take i text ++ slice_index text i ∷ []
  passed = ap (λ k. take k text) (add-one i) ∙ take-suc text i 0 more

  -- a byte that isn't a quote
  pub searched-plain : slice_index text i ≢ 34 → IsSearched text (i + 1)
  searched-plain other = record {
    within = omega arith;
    same =
        ap (λ p. after p (quoted (drop (i + 1) text))) passed
        ∙ sym (after-after (take i text) (slice_index text i ∷ []) (quoted (drop (i + 1) text)))
        ∙ ap (after (take i text)) (sym (plain (slice_index text i) (drop (i + 1) text) (ne_eqb _ _ other)) ∙ ap quoted (sym here))
        ∙ so_far.same;
  }

  -- the closing quote
  pub searched-closed : slice_index text i ≡ 34 → (slice_index (drop (i + 1) text) 0 == 34) ≡ false → Some (take i text, drop (i + 1) text) ≡ quoted text
  searched-closed one two =
      ap (λ t. Some (t, drop (i + 1) text)) (sym (append-nil (take i text)))
      ∙ ap (after (take i text)) (sym (closes (slice_index text i) (drop (i + 1) text) (eq-eqb _ _ one) two) ∙ ap quoted (sym here))
      ∙ so_far.same

  -- two quotes
  pub searched-doubled : slice_index text i ≡ 34 → i + 1 < length text → slice_index text (i + 1) ≡ 34 → IsSearched text (i + 2)
  searched-doubled one longer two =
      let next : suc (i + 1) ≡ i + 2 = omega arith in
      let second : drop (i + 1) text ≡ slice_index text (i + 1) ∷ drop (i + 2) text =
      drop-cons text (i + 1) 0 longer ∙ ap (λ k. slice_index text (i + 1) ∷ drop k text) next in
      let both : take (i + 2) text ≡ take i text ++ slice_index text i ∷ slice_index text (i + 1) ∷ [] =
      ap (λ k. take k text) (sym next) ∙ take-suc text (i + 1) 0 longer
      ∙ ap (λ p. p ++ slice_index text (i + 1) ∷ []) passed ∙ append_assoc (take i text) (slice_index text i ∷ []) (slice_index text (i + 1) ∷ []) in
      record {
        within = omega arith;
        same =
            ap (λ p. after p (quoted (drop (i + 2) text))) both
            ∙ sym (after-after (take i text) (slice_index text i ∷ slice_index text (i + 1) ∷ []) (quoted (drop (i + 2) text)))
            ∙ ap (after (take i text)) (
            sym (doubled (slice_index text i) (slice_index text (i + 1)) (drop (i + 2) text) (eq-eqb _ _ one) (eq-eqb _ _ two))
            ∙ ap (λ d. quoted (slice_index text i ∷ d)) (sym second) ∙ ap quoted (sym here)
            )
            ∙ so_far.same;
      }

-- nothing closes
pub searched-all : (text : List ℕ) (i : ℕ) → IsSearched text i → length text ≤ i → None ≡ quoted text
unfolding quoted
searched-all text i so_far past = ap (λ d. after (take i text) (quoted d)) (sym (drop_all i text past)) ∙ so_far.same
