-- What more bytes make of a dialogue over packets that stay when more bytes come.
use Rattle.std.proofs.Common.{◌≡◌, ℕ, zero, suc, List, [], ◌++◌, refl, sym, ap, ◌∙◌, subst, append_assoc, append-nil}
use Rattle.login_core.specs.Talk.{Cut, Reaction, End, Said, says, talk, follow, on_cut}
use Rattle.login_core.specs.Talk.Cut.{Whole, Need, Bad}
use Rattle.login_core.specs.Talk.Reaction.{Goes, Passes, Stops}
use Rattle.login_core.specs.Talk.End.{Unfinished, Passed, Stopped}

pub record IsStable {P S R : Type 0} (packet : S → List ℕ → Cut P R) : Type 0 where
  pub whole : (s : S) (bytes more : List ℕ) (p : P) (rest : List ℕ) → packet s bytes ≡ Whole p rest → packet s (bytes ++ more) ≡ Whole p (rest ++ more)
  pub bad : (s : S) (bytes more : List ℕ) (reason : R) → packet s bytes ≡ Bad reason → packet s (bytes ++ more) ≡ Bad reason

-- what is left behind, grown
then_more : {K R : Type 0} → List ℕ → End K R → End K R
then_more more Unfinished = Unfinished
then_more more (Passed key left) = Passed key (left ++ more)
then_more more (Stopped reason) = Stopped reason

-- a dialogue that goes on may say more, an ended one is as it was
pub data Later {K R : Type 0} (more : List ℕ) (a b : Said K R) : Type 0 where
  goes_on : a.ended ≡ Unfinished → (rest : List (List ℕ)) → a.pieces ++ rest ≡ b.pieces → Later more a b
  passed_on : (key : K) (left : List ℕ) → a.ended ≡ Passed key left → b.pieces ≡ a.pieces → b.ended ≡ Passed key (left ++ more) → Later more a b
  stopped_on : (reason : R) → a.ended ≡ Stopped reason → b ≡ a → Later more a b

module _ (P S K R : Type 0) (packet : S → List ℕ → Cut P R) (react : S → P → Reaction S K R) (stable : IsStable packet) where
  later_says : (more : List ℕ) (pieces : List (List ℕ)) (a b : Said K R) → Later more a b → Later more (says pieces a) (says pieces b)
  later_says more pieces a b (goes_on e rest h) = goes_on e rest (append_assoc pieces a.pieces rest ∙ ap (λ (l : List (List ℕ)). pieces ++ l) h)
  later_says more pieces a b (passed_on key left e h k) = passed_on key left e (ap (λ (l : List (List ℕ)). pieces ++ l) h) k
  later_says more pieces a b (stopped_on reason e h) = stopped_on reason e (ap (says pieces) h)

  later_follows : (n : ℕ) (rest more : List ℕ) (r : Reaction S K R) → ((t : S) → Later more (talk packet react n t rest) (talk packet react n t (rest ++ more))) →
      Later more (follow rest (λ t. talk packet react n t rest) r) (follow (rest ++ more) (λ t. talk packet react n t (rest ++ more)) r)
  later_follows n rest more (Goes pieces t) ih = later_says more pieces (talk packet react n t rest) (talk packet react n t (rest ++ more)) (ih t)
  later_follows n rest more (Passes pieces key) ih = passed_on key rest refl refl refl
  later_follows n rest more (Stops pieces reason) ih = stopped_on reason refl refl

  pub later : (n : ℕ) (s : S) (bytes more : List ℕ) → Later more (talk packet react n s bytes) (talk packet react n s (bytes ++ more))
  later zero s bytes more = goes_on refl [] refl
  later (suc n) s bytes more = go (packet s bytes) refl (λ rest t. later n t rest more)
    where
      go : (o : Cut P R) → packet s bytes ≡ o → ((rest : List ℕ) (t : S) → Later more (talk packet react n t rest) (talk packet react n t (rest ++ more))) →
          Later more (on_cut (react s) (talk packet react n) o) (on_cut (react s) (talk packet react n) (packet s (bytes ++ more)))
      go (Whole p rest) e ih =
          subst (λ (c : Cut P R). Later more (follow rest (λ t. talk packet react n t rest) (react s p)) (on_cut (react s) (talk packet react n) c)) (sym (stable.whole s bytes more p rest e))
          (later_follows n rest more (react s p) (ih rest))
      go (Need m) e ih = goes_on refl _ refl
      go (Bad reason) e ih = stopped_on reason refl (ap (on_cut (react s) (talk packet react n)) (stable.bad s bytes more reason e))

pub later_front : {K R : Type 0} (more : List ℕ) (a b : Said K R) → Later more a b → (rest : List (List ℕ)) × (a.pieces ++ rest ≡ b.pieces)
later_front more a b (goes_on e rest h) = (rest, h)
later_front more a b (passed_on key left e h k) = ([], append-nil a.pieces ∙ sym h)
later_front more a b (stopped_on reason e h) = ([], append-nil a.pieces ∙ ap (λ (x : Said _ _). x.pieces) (sym h))

pub later_passed : {K R : Type 0} (more : List ℕ) (a b : Said K R) (key : K) (left : List ℕ) → a.ended ≡ Passed key left → Later more a b → (b.pieces ≡ a.pieces) × (b.ended ≡ Passed key (left ++ more))
unfolding then_more
later_passed {K} {R} more a b key left p (goes_on e rest h) = absurd (differ (sym e ∙ p))
  where
    differ : ◌≡◌ {A = End K R} Unfinished (Passed key left) → ⊥
    differ q = cc
later_passed more a b key left p (passed_on k l e h f) = (h, f ∙ ap (then_more more) (sym e ∙ p))
later_passed {K} {R} more a b key left p (stopped_on reason e h) = absurd (differ (sym e ∙ p))
  where
    differ : ◌≡◌ {A = End K R} (Stopped reason) (Passed key left) → ⊥
    differ q = cc

pub later_stopped : {K R : Type 0} (more : List ℕ) (a b : Said K R) (reason : R) → a.ended ≡ Stopped reason → Later more a b → b ≡ a
later_stopped {K} {R} more a b reason p (goes_on e rest h) = absurd (differ (sym e ∙ p))
  where
    differ : ◌≡◌ {A = End K R} Unfinished (Stopped reason) → ⊥
    differ q = cc
later_stopped {K} {R} more a b reason p (passed_on key left e h k) = absurd (differ (sym e ∙ p))
  where
    differ : ◌≡◌ {A = End K R} (Passed key left) (Stopped reason) → ⊥
    differ q = cc
later_stopped more a b reason p (stopped_on r e h) = h
