-- An index of database rows by their names.
use Rattle.std.proofs.Common.{◌≡◌, ℕ, Bool, true, false, cond, List, [], ◌∷◌, Some, refl, sym, ap, ◌∙◌, bytes_eq, slice_get, if◌then◌else◌}
use Rattle.std.specs.Map.{lookup}
use Rattle.std.proofs.lemmas.Slice.Eq.{bytes_eq-Decides}
use Rattle.indexmap.specs.IndexMap.{insert_entry}
use Rattle.book_model.specs.Book.{Row, row_named}
use Rattle.book_model.specs.RowIndex.{FindsRows, row_at}

module _ {K : Type 0} (text : K → List ℕ) where
  abbrev is_named : List ℕ → K → Bool
  is_named name k = bytes_eq name (text k)

  abbrev same : K → K → Bool
  same x y = bytes_eq (text x) (text y)

  there : (name : List ℕ) (place : ℕ) (e : K × ℕ) (es : List (K × ℕ)) (b : Bool) → cond b (Some place) (lookup (is_named name) es) ≡ cond b (Some place) (cond b (Some e.1) (lookup (is_named name) es))
  there name place e es true = refl
  there name place e es false = refl

  elsewhere : (name : List ℕ) (k : K) (place : ℕ) (e : K × ℕ) (es : List (K × ℕ)) (a b : Bool) → is_named name k ≡ a → is_named name e.0 ≡ b → same k e.0 ≡ false
      → cond b (Some e.1) (cond a (Some place) (lookup (is_named name) es)) ≡ cond a (Some place) (cond b (Some e.1) (lookup (is_named name) es))
  elsewhere name k place e es true true p q n =
      let alike : text k ≡ text e.0 = sym ((bytes_eq-Decides name (text k)).0 p) ∙ (bytes_eq-Decides name (text e.0)).0 q in
      let one : same k e.0 ≡ true = (bytes_eq-Decides (text k) (text e.0)).1 alike in
      absurd (cc)
  elsewhere name k place e es true false p q n = refl
  elsewhere name k place e es false true p q n = refl
  elsewhere name k place e es false false p q n = refl

  with_one : (name : List ℕ) (k : K) (place : ℕ) (e : K × ℕ) (es : List (K × ℕ)) (b : Bool) → same k e.0 ≡ b
      → lookup (is_named name) (insert_entry same es k place) ≡ cond (is_named name k) (Some place) (lookup (is_named name) es)
      → lookup (is_named name) (if b then (e.0, place) ∷ es else e ∷ insert_entry same es k place) ≡ cond (is_named name k) (Some place) (cond (is_named name e.0) (Some e.1) (lookup (is_named name) es))
  with_one name k place e es true p rest =
      let alike : is_named name e.0 ≡ is_named name k = ap (bytes_eq name) (sym ((bytes_eq-Decides (text k) (text e.0)).0 p)) in
      there name place e es (is_named name e.0) ∙ ap (λ (b : Bool). cond b (Some place) (cond (is_named name e.0) (Some e.1) (lookup (is_named name) es))) alike
  with_one name k place e es false p rest = ap (λ o. cond (is_named name e.0) (Some e.1) o) rest ∙ elsewhere name k place e es (is_named name k) (is_named name e.0) refl refl p

  -- an entry is found under its own name, and what the others lead to stays
  lookup-inserted : (name : List ℕ) (k : K) (place : ℕ) (es : List (K × ℕ)) → lookup (is_named name) (insert_entry same es k place) ≡ cond (is_named name k) (Some place) (lookup (is_named name) es)
  lookup-inserted name k place [] = refl
  lookup-inserted name k place (e ∷ es) = with_one name k place e es (same k e.0) refl (lookup-inserted name k place es)

  found : (name : List ℕ) (es : List (K × ℕ)) (rows : List Row) (place : ℕ) (row : Row) (these : List Row) (b : Bool) → slice_get rows place ≡ Some row → FindsRows text es rows these
      → row_at rows (cond b (Some place) (lookup (is_named name) es)) ≡ cond b (Some row) (row_named name these)
  found name es rows place row these true there finds = there
  found name es rows place row these false there finds = finds name

  -- with the place of the row before them, the index finds the first of these rows
  pub one_before : (es : List (K × ℕ)) (rows : List Row) (k : K) (place : ℕ) (row : Row) (these : List Row) → slice_get rows place ≡ Some row → text k ≡ row.name → FindsRows text es rows these → FindsRows text (insert_entry same es k place) rows (row ∷ these)
  one_before es rows k place row these there own finds name =
      ap (row_at rows) (lookup-inserted name k place es) ∙ (found name es rows place row these (is_named name k) there finds ∙ ap (λ (n : List ℕ). cond (bytes_eq name n) (Some row) (row_named name these)) own)
