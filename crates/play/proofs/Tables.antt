-- The players of a table, one by one.
use Rattle.std.proofs.lemmas.List.{take_more}
use Rattle.message_view.specs.declared.KeyWord.{KeyWord}
use Rattle.memory_pool.specs.MemoryPools.{MemoryPoolOf}
use Rattle.play.specs.declared.stage.Stage.{Stage}
use Rattle.play.specs.Players.{IsAt}
use Rattle.std.proofs.Common.{◌≡◌, ℕ, zero, suc, ◌<◌, List, [], ◌∷◌, ◌++◌, refl, sym, ap, ◌∙◌, subst, length, get_or, arith, take, ◌+◌}
use Rattle.std.specs.Prelude.{slice_set}
use Rattle.std.specs.List.{AllZip}

module _ {A B : Type 0} (R : A → B → Type 0) where
  pub zip-more : (xs : List A) (ys : List B) (x : A) (y : B) → AllZip R xs ys → R x y → AllZip R (xs ++ x ∷ []) (ys ++ y ∷ [])
  zip-more [] [] x y h r = (r, tt)
  zip-more [] (b ∷ ys) x y h r = absurd h
  zip-more (a ∷ xs) [] x y h r = absurd h
  zip-more (a ∷ xs) (b ∷ ys) x y h r = (h.0, zip-more xs ys x y h.1 r)

  pub zip-at : (xs : List A) (ys : List B) (k : ℕ) (d : A) (e : B) → AllZip R xs ys → k < length xs → R (get_or xs k d) (get_or ys k e)
  zip-at [] ys k d e h l = let no : ⊥ = omega arith in absurd no
  zip-at (x ∷ xs) [] k d e h l = absurd h
  zip-at (x ∷ xs) (y ∷ ys) zero d e h l = h.0
  zip-at (x ∷ xs) (y ∷ ys) (suc k) d e h l = zip-at xs ys k d e h.1 (omega arith)

  pub zip-set : (xs : List A) (ys : List B) (k : ℕ) (d : A) (y : B) → AllZip R xs ys → R (get_or xs k d) y → AllZip R xs (slice_set ys k y)
  zip-set [] [] k d y h r = tt
  zip-set [] (b ∷ ys) k d y h r = absurd h
  zip-set (a ∷ xs) [] k d y h r = absurd h
  zip-set (a ∷ xs) (b ∷ ys) zero d y h r = (r, h.1)
  zip-set (a ∷ xs) (b ∷ ys) (suc k) d y h r = (h.0, zip-set xs ys k d y h.1 r)

  pub zip-taken : (xs : List A) (ys : List B) (k : ℕ) (x : A) (y : B) → k < length xs → x ≡ get_or xs k x → AllZip R (take k xs) ys → R x y → AllZip R (take (k + 1) xs) (ys ++ y ∷ [])
  zip-taken xs ys k x y l is h r = subst (λ (zs : List A). AllZip R zs (ys ++ y ∷ [])) (ap (λ (z : A). take k xs ++ z ∷ []) is ∙ sym (take_more xs k x l)) (zip-more (take k xs) ys x y h r)

  pub zip-length : (xs : List A) (ys : List B) → AllZip R xs ys → length xs ≡ length ys
  zip-length [] [] h = refl
  zip-length [] (y ∷ ys) h = absurd h
  zip-length (x ∷ xs) [] h = absurd h
  zip-length (x ∷ xs) (y ∷ ys) h = ap suc (zip-length xs ys h.1)

-- the same stage, under other names
pub same_at : (h k : MemoryPoolOf) (word other : KeyWord) (input bytes : List ℕ) (s t : Stage) → k ≡ h → other ≡ word → input ≡ bytes → t ≡ s → IsAt k other input s → IsAt h word bytes t
same_at h k word other input bytes s t e w i n x =
    subst (λ (a : MemoryPoolOf). IsAt a word bytes t) e
    (subst (λ (a : KeyWord). IsAt k a bytes t) w
    (subst (λ (a : List ℕ). IsAt k other a t) i
    (subst (λ (a : Stage). IsAt k other input a) (sym n) x)))
