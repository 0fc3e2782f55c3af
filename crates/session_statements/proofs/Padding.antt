-- A row with as many values as there are columns, one value after the other.
use Rattle.std.proofs.Common.{◌≡◌, ℕ, zero, suc, ◌+◌, ◌<◌, List, [], ◌∷◌, ◌++◌, length, drop, map, refl, sym, ap, ◌∙◌, arith, add-one, append_assoc}
use Rattle.std.proofs.lemmas.List.{drop-map, length-map}
use Rattle.mini_sql.specs.Words.{Text}
use Rattle.session_values.specs.State.{Row}
use Rattle.session_values.specs.Runs.{cell_at, padded}

none-left : (i : ℕ) → let none : Row = [] in drop i none ≡ none
none-left zero = refl
none-left (suc i) = refl

padded-cut : (cs : List Text) (vs : Row) (i : ℕ) → i < length cs → padded (drop i cs) (drop i vs) ≡ cell_at vs i ∷ padded (drop (suc i) cs) (drop (suc i) vs)
padded-cut [] vs i h = absurd (omega arith)
padded-cut (c ∷ cs) [] zero h = refl
padded-cut (c ∷ cs) (v ∷ vs) zero h = refl
padded-cut (c ∷ cs) [] (suc i) h = ap (λ (r : Row). padded (drop i cs) r) (sym (none-left i)) ∙ padded-cut cs [] i (omega (arith, h)) ∙ ap (λ (r : Row). cell_at [] i ∷ padded (drop (suc i) cs) r) (none-left (suc i))
padded-cut (c ∷ cs) (v ∷ vs) (suc i) h = padded-cut cs vs i (omega (arith, h))

pub padded_step : {A : Type 0} (f : A → Text) (cs : List A) (vs row all : Row) (i : ℕ) → i < length cs → row ++ padded (map f (drop i cs)) (drop i vs) ≡ all
    → (row ++ cell_at vs i ∷ []) ++ padded (map f (drop (i + 1) cs)) (drop (i + 1) vs) ≡ all
padded_step f cs vs row all i h e =
    let long : i < length (map f cs) = omega (arith, h, length-map cs f) in
    let here : padded (map f (drop i cs)) (drop i vs) ≡ cell_at vs i ∷ padded (map f (drop (suc i) cs)) (drop (suc i) vs) =
    ap (λ (c : List Text). padded c (drop i vs)) (sym (drop-map f i cs)) ∙ padded-cut (map f cs) vs i long ∙ ap (λ (c : List Text). cell_at vs i ∷ padded c (drop (suc i) vs)) (drop-map f (suc i) cs) in
    rw (add-one i) (append_assoc row (cell_at vs i ∷ []) (padded (map f (drop (suc i) cs)) (drop (suc i) vs)) ∙ ap (λ (r : Row). row ++ r) (sym here) ∙ e)
