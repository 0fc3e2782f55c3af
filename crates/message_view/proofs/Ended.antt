-- Lists that an item of their own ends.
use Rattle.std.proofs.Common.{◌≡◌, ◌<◌, ℕ, zero, suc, List, [], ◌∷◌, length, Option, Some, None, Ok, Err, refl, ap, sym, ◌∙◌, true, arith}
use Rattle.std.specs.Prelude.{is_ok}
use Rattle.message_view.specs.declared.ViewError.{ViewError}
use Rattle.message_view.proofs.Pieces.{rest-more, more-items, found, fault}
use Rattle.message_view.specs.Reading.{Part, ◌>>=◌, rest_of, items_of, and_more, list_until, ended_at}

module _ {A : Type 0} (item : List ℕ → Part (Option A)) (shrinks : (bytes rest : List ℕ) (x : Option A) → item bytes ≡ Ok (x, rest) → length rest < length bytes) where
  same-more : (n m : ℕ) (bytes : List ℕ) (x : Part (Option A)) → item bytes ≡ x → ((rest : List ℕ) → length rest < length bytes → list_until item n rest ≡ list_until item m rest)
      → (x >>= λ y. and_more y.0 y.1 (list_until item n)) ≡ (x >>= λ y. and_more y.0 y.1 (list_until item m))
  same-more n m bytes (Err f) is same = refl
  same-more n m bytes (Ok (None, rest)) is same = refl
  same-more n m bytes (Ok (Some x, rest)) is same = ap (λ (p : Part (List A)). p >>= λ others. Ok (x ∷ others.0, others.1)) (same rest (shrinks bytes rest (Some x) is))

  -- any number that is not too small does
  enough : (n m : ℕ) (bytes : List ℕ) → length bytes < n → length bytes < m → list_until item n bytes ≡ list_until item m bytes
  unfolding list_until
  enough zero m bytes low high = absurd (omega arith)
  enough (suc n) zero bytes low high = absurd (omega arith)
  enough (suc n) (suc m) bytes low high = same-more n m bytes (item bytes) refl (λ rest h. enough n m rest (omega arith) (omega arith))

  unrolled : (bytes : List ℕ) (x : Part (Option A)) → item bytes ≡ x → (x >>= λ y. and_more y.0 y.1 (list_until item (length bytes))) ≡ (x >>= λ y. and_more y.0 y.1 (ended_at item))
  unfolding ended_at
  unrolled bytes (Err f) is = refl
  unrolled bytes (Ok (None, rest)) is = refl
  unrolled bytes (Ok (Some x, rest)) is =
      ap (λ (p : Part (List A)). p >>= λ others. Ok (x ∷ others.0, others.1)) (enough (length bytes) (suc (length rest)) rest (shrinks bytes rest (Some x) is) (omega arith))

  pub ended : (bytes : List ℕ) → ended_at item bytes ≡ (item bytes >>= λ x. and_more x.0 x.1 (ended_at item))
  unfolding ended_at list_until
  ended bytes = unrolled bytes (item bytes) refl

  pub ended_none : (bytes rest : List ℕ) → item bytes ≡ Ok (None, rest) → ended_at item bytes ≡ Ok ([], rest)
  ended_none bytes rest is = ended bytes ∙ rw is refl

  pub ended_fault : (bytes : List ℕ) (f : ViewError) → item bytes ≡ Err f → ended_at item bytes ≡ Err f
  ended_fault bytes f is = ended bytes ∙ rw is refl

  ended-more : (bytes rest : List ℕ) (x : A) → item bytes ≡ Ok (Some x, rest) → ended_at item bytes ≡ (ended_at item rest >>= λ others. Ok (x ∷ others.0, others.1))
  ended-more bytes rest x is = ended bytes ∙ rw is refl

  pub ended_rest : (bytes rest : List ℕ) (x : A) → item bytes ≡ Ok (Some x, rest) → rest_of (ended_at item bytes) ≡ rest_of (ended_at item rest)
  ended_rest bytes rest x is = ap rest_of (ended-more bytes rest x is) ∙ rest-more x (ended_at item rest)

  pub ended_items : (bytes rest : List ℕ) (x : A) → item bytes ≡ Ok (Some x, rest) → is_ok (ended_at item bytes) ≡ true
      → (items_of (ended_at item bytes) ≡ x ∷ items_of (ended_at item rest)) × (is_ok (ended_at item rest) ≡ true)
  ended_items bytes rest x is ok =
      let whole = ended-more bytes rest x is in
      let parts = more-items x (ended_at item rest) (sym (ap is_ok whole) ∙ ok) in
      (ap items_of whole ∙ parts.0, parts.1)

  -- ---- what a walk over the list needs of it

  pub list_goes_on : (bytes rest : List ℕ) (x : A) → item bytes ≡ Ok (Some x, rest) → rest_of (ended_at item bytes) ≡ rest_of (ended_at item rest)
  list_goes_on bytes rest x is = ended_rest bytes rest x is

  pub list_breaks : (bytes : List ℕ) (f : ViewError) → item bytes ≡ Err f → rest_of (ended_at item bytes) ≡ Err f
  list_breaks bytes f is = ap rest_of (ended_fault bytes f is)

  pub no_item : (bytes : List ℕ) (f : ViewError) → item bytes ≡ Err f → items_of (ended_at item bytes) ≡ []
  no_item bytes f is = ap items_of (ended_fault bytes f is)

  pub item_is_first : (bytes rest : List ℕ) (x : A) → item bytes ≡ Ok (Some x, rest) → is_ok (ended_at item bytes) ≡ true → items_of (ended_at item bytes) ≡ x ∷ items_of (ended_at item rest)
  item_is_first bytes rest x is ok = (ended_items bytes rest x is ok).0

  pub rest_is_list : (bytes rest : List ℕ) (x : A) → item bytes ≡ Ok (Some x, rest) → is_ok (ended_at item bytes) ≡ true → is_ok (ended_at item rest) ≡ true
  rest_is_list bytes rest x is ok = (ended_items bytes rest x is ok).1

pub ended_found : {A : Type 0} (item : List ℕ → Part (Option A)) (bytes rest : List ℕ) → rest_of (ended_at item bytes) ≡ Ok rest → ended_at item bytes ≡ Ok (items_of (ended_at item bytes), rest)
ended_found item bytes rest e = found (ended_at item bytes) rest e

pub ended_there : {A : Type 0} (item : List ℕ → Part (Option A)) (bytes rest : List ℕ) → rest_of (ended_at item bytes) ≡ Ok rest → is_ok (ended_at item bytes) ≡ true
ended_there item bytes rest e = ap is_ok (ended_found item bytes rest e)

pub ended_broken : {A : Type 0} (item : List ℕ → Part (Option A)) (bytes : List ℕ) (f : ViewError) → rest_of (ended_at item bytes) ≡ Err f → ended_at item bytes ≡ Err f
ended_broken item bytes f e = fault (ended_at item bytes) f e
