-- A body that is one part is read and spelled as that part is.
use Rattle.std.proofs.Common.{◌≡◌, ℕ, List, [], ◌++◌, Ok, ap, sym, subst, ◌∙◌}
use Rattle.std.proofs.lemmas.List.{append-nil}
use Rattle.frame_view.specs.Frames.{AreBytes}
use Rattle.message_laws.specs.Laws.{IsReaderOf}
use Rattle.message_view.specs.Reading.{Part, at_end, alone}
use Rattle.message_view.proofs.Pieces.{bind-inv, at_end-inv}

module _ {A : Type 0} (item : List ℕ → Part A) (spell : A → List ℕ) (Fits : A → Type 0)
    (reads : (x : A) (rest : List ℕ) → Fits x → item (spell x ++ rest) ≡ Ok (x, rest))
    (spelled : (bytes : List ℕ) (x : A) (rest : List ℕ) → AreBytes bytes → item bytes ≡ Ok (x, rest) → (bytes ≡ spell x ++ rest) × Fits x) where
  pub alone-again : (x : A) → Fits x → alone (item (spell x)) ≡ Ok x
  alone-again x h = ap (λ (b : List ℕ). alone (item b)) (sym (append-nil (spell x))) ∙ ap (λ (p : Part A). alone p) (reads x [] h)

  only : (body : List ℕ) (x y : A) (rest : List ℕ) → AreBytes body → item body ≡ Ok (x, rest) → x ≡ y → rest ≡ [] → Fits y × (body ≡ spell y)
  only body x y rest fits is e none =
      let inner = spelled body x rest fits is in
      subst (λ (z : A). Fits z × (body ≡ spell z)) e (inner.1, inner.0 ∙ ap (λ (r : List ℕ). spell x ++ r) none ∙ append-nil (spell x))

  pub alone-only : (body : List ℕ) (x : A) → AreBytes body → alone (item body) ≡ Ok x → Fits x × (body ≡ spell x)
  alone-only body x fits e =
      let part = bind-inv (item body) (λ (p : A × List ℕ). at_end p.0 p.1) x e in
      let last = at_end-inv part.0.0 x part.0.1 part.2 in
      only body part.0.0 x part.0.1 fits part.1 last.0 last.1

  pub alone_reader : IsReaderOf (λ body. alone (item body)) spell Fits
  alone_reader = record { again = alone-again; only = alone-only }
