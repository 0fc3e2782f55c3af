-- Tables read through what their entries have.
use Rattle.std.proofs.Common.{◌≡◌, ◌||◌, ◌++◌, ℕ, Bool, cond, List, [], ◌∷◌, Some, refl, sym, ap, ◌∙◌, bytes_eq, false}
use Rattle.std.specs.Prelude.{map}
use Rattle.std.proofs.lemmas.List.{map-append}
use Rattle.std.specs.List.{find, list_any}
use Rattle.std.specs.Map.{lookup}

pub list_any-map : {A B : Type 0} (test : B → Bool) (f : A → B) (xs : List A) → list_any test (map f xs) ≡ list_any (λ x. test (f x)) xs
list_any-map test f [] = refl
list_any-map test f (x ∷ xs) = ap (λ b. test (f x) || b) (list_any-map test f xs)

-- a new key goes last
pub keys-added : {A : Type 0} (f : A → List ℕ) (ks : List A) (k : A) (seen : List (List ℕ)) → map f ks ≡ seen → list_any (bytes_eq (f k)) seen ≡ false
    → map f (cond (list_any (λ x. bytes_eq (f k) (f x)) ks) ks (ks ++ k ∷ [])) ≡ seen ++ f k ∷ []
keys-added f ks k seen same fresh =
    let new : list_any (λ x. bytes_eq (f k) (f x)) ks ≡ false = sym (list_any-map (bytes_eq (f k)) f ks) ∙ ap (list_any (bytes_eq (f k))) same ∙ fresh in
    ap (λ b. map f (cond b ks (ks ++ k ∷ []))) new ∙ map-append f ks (k ∷ []) ∙ ap (λ s. s ++ f k ∷ []) same

-- entries under keys with a text, and rows with a name
module _ {K R : Type 0} (text : K → List ℕ) (name_of : R → List ℕ) where
  -- where each key is its row's name, a look-up by key finds the row of the name
  pub lookup-named : (name : List ℕ) (es : List (K × R)) → map (λ e. text e.0) es ≡ map (λ e. name_of e.1) es
      → lookup (λ k. bytes_eq name (text k)) es ≡ find (λ r. bytes_eq name (name_of r)) (map (λ e. e.1) es)
  lookup-named name [] same = refl
  lookup-named name (e ∷ es) same =
      let first : text e.0 ≡ name_of e.1 = cc in
      let others : map (λ f. text f.0) es ≡ map (λ f. name_of f.1) es = cc in
      ap (λ b. cond (bytes_eq name b) (Some e.1) (lookup (λ k. bytes_eq name (text k)) es)) first
      ∙ ap (λ r. cond (bytes_eq name (name_of e.1)) (Some e.1) r) (lookup-named name es others)

  -- a row that is added at the end is added to the rows
  pub rows-added : (es : List (K × R)) (k : K) (row : R) (rows : List R) → map (λ e. e.1) es ≡ rows
      → map (λ e. e.1) (es ++ (k, row) ∷ []) ≡ rows ++ row ∷ []
  rows-added es k row rows same = map-append (λ e. e.1) es ((k, row) ∷ []) ∙ ap (λ r. r ++ row ∷ []) same

  -- and each key is its row's name, as before
  pub named-added : (es : List (K × R)) (k : K) (row : R) → map (λ e. text e.0) es ≡ map (λ e. name_of e.1) es → text k ≡ name_of row
      → map (λ e. text e.0) (es ++ (k, row) ∷ []) ≡ map (λ e. name_of e.1) (es ++ (k, row) ∷ [])
  named-added es k row same own =
      map-append (λ e. text e.0) es ((k, row) ∷ []) ∙ ap (λ t. t ++ text k ∷ []) same ∙ ap (λ t. map (λ e. name_of e.1) es ++ t ∷ []) own
      ∙ sym (map-append (λ e. name_of e.1) es ((k, row) ∷ []))
