-- Two pools are one where the lengths of their rows' names are equal, and so are both names.
use Rattle.std.proofs.Common.{◌≡◌, ℕ, ◌+◌, List, ◌++◌, length, Bool, true, false, ◌&&◌, ◌==◌, refl, sym, ap, ap₂, ◌∙◌, subst, take, eq-eqb, eqb-true, arith}
use Rattle.std.specs.Prelude.{bytes_eq, drop}
use Rattle.std.proofs.Math.Seq.{drop-append_seam, take-append_seam}
use Rattle.std.proofs.lemmas.List.{length-append}
use Rattle.std.proofs.lemmas.Slice.{take-put_mid}
use borrow.Rule.Slice.PartMut.{put_mid}
use Rattle.std.proofs.lemmas.Slice.Eq.{bytes_eq-Decides}
use Rattle.std.proofs.lemmas.Bool.{true≢false}
use Rattle.session_values.specs.State.{StartKeyOf}
use Rattle.book_model.specs.Book.{same_pool}
use Rattle.book_rows.specs.ShortNames.{NameOf, IsNameOf, name_of}

-- what stands behind fronts of one length
same_front : (a b x y : List ℕ) → length a ≡ length b → a ++ x ≡ b ++ y → a ≡ b
same_front a b x y l e = sym (take-append_seam a x) ∙ (ap₂ take l e ∙ take-append_seam b y)

same_back : (a b x y : List ℕ) → length a ≡ length b → a ++ x ≡ b ++ y → x ≡ y
same_back a b x y l e = sym (drop-append_seam a x) ∙ (ap₂ drop l e ∙ drop-append_seam b y)

names_decide : (r u s v : List ℕ) → ((length r == length s) && bytes_eq (r ++ u) (s ++ v)) ≡ (bytes_eq r s && bytes_eq u v)
names_decide r u s v = go (bytes_eq r s) (bytes_eq u v) (length r == length s) (bytes_eq (r ++ u) (s ++ v)) refl refl refl refl
  where
    go : (a b c d : Bool) → bytes_eq r s ≡ a → bytes_eq u v ≡ b → (length r == length s) ≡ c → bytes_eq (r ++ u) (s ++ v) ≡ d → (c && d) ≡ (a && b)
    go true true true true p q m n = refl
    go true true true false p q m n =
        absurd (true≢false (sym ((bytes_eq-Decides (r ++ u) (s ++ v)).1 (ap₂ (λ (x y : List ℕ). x ++ y) ((bytes_eq-Decides r s).0 p) ((bytes_eq-Decides u v).0 q))) ∙ n))
    go true true false d p q m n = absurd (true≢false (sym (eq-eqb (length r) (length s) (ap length ((bytes_eq-Decides r s).0 p))) ∙ m))
    go true false true true p q m n =
        absurd (true≢false (sym ((bytes_eq-Decides u v).1 (same_back r s u v (eqb-true (length r) (length s) m) ((bytes_eq-Decides (r ++ u) (s ++ v)).0 n))) ∙ q))
    go true false true false p q m n = refl
    go true false false d p q m n = refl
    go false b true true p q m n =
        absurd (true≢false (sym ((bytes_eq-Decides r s).1 (same_front r s u v (eqb-true (length r) (length s) m) ((bytes_eq-Decides (r ++ u) (s ++ v)).0 n))) ∙ p))
    go false b true false p q m n = refl
    go false b false d p q m n = refl

pub same_names : (left right : StartKeyOf) (a b : NameOf) → IsNameOf left a → IsNameOf right b → ((a.row == b.row) && bytes_eq a.both b.both) ≡ same_pool left right
same_names left right a b x y =
    ap₂ (λ (p q : Bool). p && q) (ap₂ (λ (m n : ℕ). m == n) x.0 y.0) (ap₂ bytes_eq x.1 y.1) ∙ names_decide left.row left.user right.row right.user

-- one text was written to the front, and then the other behind it
pub both_written : (row user first second rest : List ℕ) (k : ℕ) → first ≡ row → second ≡ user → take (length row + length user) (put_mid (length row) k (first ++ rest) second) ≡ row ++ user
both_written row user first second rest k p q =
    take-put_mid (length row) k (first ++ rest) second (length row + length user) (ap (λ (l : List ℕ). length row + length l) (sym q)) (omega (arith, length-append first rest, ap length p))
    ∙ ap₂ (λ (l m : List ℕ). l ++ m) (ap (λ (l : List ℕ). take (length row) (l ++ rest)) p ∙ take-append_seam row rest) q

-- where the lengths are equal, both names decide
pub by_both : (left right : StartKeyOf) (a b : NameOf) (ra rb : ℕ) (xa xb : List ℕ) (r : Bool) → name_of ra xa ≡ a → name_of rb xb ≡ b → ra ≡ rb → r ≡ bytes_eq xa xb → IsNameOf left a → IsNameOf right b → r ≡ same_pool left right
by_both left right a b ra rb xa xb r p q e f x y =
    f ∙ (sym (ap (λ (t : Bool). t && bytes_eq xa xb) (eq-eqb ra rb e)) ∙ same_names left right (name_of ra xa) (name_of rb xb) (subst (IsNameOf left) (sym p) x) (subst (IsNameOf right) (sym q) y))
