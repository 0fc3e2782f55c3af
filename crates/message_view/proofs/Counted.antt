-- Lists with a count before them.
use Rattle.std.proofs.Common.{◌≡◌, ◌<◌, ℕ, zero, suc, List, [], ◌∷◌, length, Ok, Err, refl, ap, sym, ◌∙◌, true, false, arith}
use Rattle.std.specs.Prelude.{is_ok}
use Rattle.message_view.specs.declared.ViewError.{ViewError}
use Rattle.message_view.specs.declared.ViewError.TheVariants.{LeftOver}
use Rattle.message_view.proofs.Pieces.{rest-more, more-items, found, fault}
use Rattle.message_view.specs.Reading.{Part, ◌>>=◌, rest_of, items_of, list_at, at_end}

pub left_over : {A : Type 0} (x : A) (bytes : List ℕ) → 0 < length bytes → at_end x bytes ≡ Err LeftOver
left_over x [] h = absurd (omega arith)
left_over x (b ∷ bytes) h = refl

module _ {A : Type 0} (item : List ℕ → Part A) where
  -- ---- the rest after a list

  pub list_ends : (n : ℕ) (bytes : List ℕ) → n ≡ 0 → rest_of (list_at item n bytes) ≡ Ok bytes
  unfolding list_at
  list_ends n bytes e = ap (λ m. rest_of (list_at item m bytes)) e

  pub list_goes_on : (n m : ℕ) (bytes rest : List ℕ) (x : A) → n ≡ suc m → item bytes ≡ Ok (x, rest) → rest_of (list_at item n bytes) ≡ rest_of (list_at item m rest)
  unfolding list_at
  list_goes_on n m bytes rest x e is = ap (λ k. rest_of (list_at item k bytes)) e ∙ rw is (rest-more x (list_at item m rest))

  pub list_breaks : (n : ℕ) (bytes : List ℕ) (fault : ViewError) → 0 < n → item bytes ≡ Err fault → rest_of (list_at item n bytes) ≡ Err fault
  unfolding list_at
  list_breaks zero bytes fault h is = absurd (omega arith)
  list_breaks (suc n) bytes fault h is = rw is refl

  pub list_found : (n : ℕ) (bytes rest : List ℕ) → rest_of (list_at item n bytes) ≡ Ok rest → list_at item n bytes ≡ Ok (items_of (list_at item n bytes), rest)
  list_found n bytes rest e = found (list_at item n bytes) rest e

  pub list_there : (n : ℕ) (bytes rest : List ℕ) → rest_of (list_at item n bytes) ≡ Ok rest → is_ok (list_at item n bytes) ≡ true
  list_there n bytes rest e = ap is_ok (list_found n bytes rest e)

  pub list_fault : (n : ℕ) (bytes : List ℕ) (f : ViewError) → rest_of (list_at item n bytes) ≡ Err f → list_at item n bytes ≡ Err f
  list_fault n bytes f e = fault (list_at item n bytes) f e

  -- ---- the items of a list that is there

  pub none_is_left : (n : ℕ) (bytes : List ℕ) → n ≡ 0 → items_of (list_at item n bytes) ≡ []
  unfolding list_at
  none_is_left n bytes e = ap (λ m. items_of (list_at item m bytes)) e

  pub item_is_there : (n m : ℕ) (bytes : List ℕ) (f : ViewError) → n ≡ suc m → item bytes ≡ Err f → is_ok (list_at item n bytes) ≡ true → ⊥
  unfolding list_at
  item_is_there n m bytes f e is ok =
      let no : is_ok (list_at item n bytes) ≡ false = ap (λ k. is_ok (list_at item k bytes)) e ∙ rw is refl in
      cc

  pub broken_is_empty : (n : ℕ) (bytes : List ℕ) (f : ViewError) → 0 < n → item bytes ≡ Err f → items_of (list_at item n bytes) ≡ []
  unfolding list_at
  broken_is_empty zero bytes f h is = refl
  broken_is_empty (suc n) bytes f h is = rw is refl

  first-and-more : (n m : ℕ) (bytes rest : List ℕ) (x : A) → n ≡ suc m → item bytes ≡ Ok (x, rest) → is_ok (list_at item n bytes) ≡ true
      → (items_of (list_at item n bytes) ≡ x ∷ items_of (list_at item m rest)) × (is_ok (list_at item m rest) ≡ true)
  unfolding list_at
  first-and-more n m bytes rest x e is ok =
      let whole : list_at item n bytes ≡ (list_at item m rest >>= λ o. Ok (x ∷ o.0, o.1)) = ap (λ k. list_at item k bytes) e ∙ rw is refl in
      let parts = more-items x (list_at item m rest) (sym (ap is_ok whole) ∙ ok) in
      (ap items_of whole ∙ parts.0, parts.1)

  pub item_is_first : (n m : ℕ) (bytes rest : List ℕ) (x : A) → n ≡ suc m → item bytes ≡ Ok (x, rest) → is_ok (list_at item n bytes) ≡ true
      → items_of (list_at item n bytes) ≡ x ∷ items_of (list_at item m rest)
  item_is_first n m bytes rest x e is ok = (first-and-more n m bytes rest x e is ok).0

  pub rest_is_list : (n m : ℕ) (bytes rest : List ℕ) (x : A) → n ≡ suc m → item bytes ≡ Ok (x, rest) → is_ok (list_at item n bytes) ≡ true
      → is_ok (list_at item m rest) ≡ true
  rest_is_list n m bytes rest x e is ok = (first-and-more n m bytes rest x e is ok).1

  count-more : (n : ℕ) (bytes : List ℕ) (first : Part A) → item bytes ≡ first → is_ok (list_at item (suc n) bytes) ≡ true
      → ((rest : List ℕ) → is_ok (list_at item n rest) ≡ true → length (items_of (list_at item n rest)) ≡ n) → length (items_of (list_at item (suc n) bytes)) ≡ suc n
  count-more n bytes (Ok x) is ok more =
      let parts = first-and-more (suc n) n bytes x.1 x.0 refl is ok in
      ap length parts.0 ∙ ap suc (more x.1 parts.1)
  count-more n bytes (Err f) is ok more = absurd (item_is_there (suc n) n bytes f refl is ok)

  pub items_count : (n : ℕ) (bytes : List ℕ) → is_ok (list_at item n bytes) ≡ true → length (items_of (list_at item n bytes)) ≡ n
  items_count zero bytes ok = ap length (none_is_left 0 bytes refl)
  items_count (suc n) bytes ok = count-more n bytes (item bytes) refl ok (λ rest h. items_count n rest h)
