-- A parameter that is put at the place of its name leaves the parameters in order.
use Rattle.std.proofs.Common.{◌≡◌, Bool, true, false, List, [], ◌∷◌, refl, ap, ◌∙◌, subst}
use Rattle.std.specs.Prelude.{if◌then◌else◌, bytes_eq}
use Rattle.std.proofs.lemmas.Bool.{true≢false, false≢true}
use Rattle.std.proofs.lemmas.Slice.Eq.{bytes_eq-Decides}
use Rattle.std.proofs.lemmas.Map.Text.{is_eq-slice_cmp}
use Rattle.std.proofs.lemmas.Cmp.{nat_list_cmp_total}
use Rattle.std.specs.Cmp.Lexicographic.{slice_cmp}
use Rattle.std.specs.Ordering.{nat_cmp, is_lt, is_eq, ordering_reverse}
use Rattle.std.specs.declared.cmp.Ordering.{Ordering}
use Rattle.std.specs.declared.cmp.Ordering.TheVariants.{Less, Equal, Greater}
use Rattle.std.specs.List.{AllByRecursion}
use Rattle.start_keys.specs.Lawful.{is_before, AreOrdered}
use Rattle.start_keys.specs.StartPairs.{Text, Pair, put}
use Rattle.key_laws.specs.Keys.{PutKeepsOrder}

-- ---- the order of names

compare : Text → Text → Ordering
compare a b = slice_cmp nat_cmp a b

less : (o : Ordering) → is_lt o ≡ true → o ≡ Less
less Less e = refl
less Equal e = absurd (false≢true e)
less Greater e = absurd (false≢true e)

before-trans : (a b c : Text) → is_before a b ≡ true → is_before b c ≡ true → is_before a c ≡ true
before-trans a b c h k = ap is_lt (nat_list_cmp_total.trans a b c (less (slice_cmp nat_cmp a b) h) (less (slice_cmp nat_cmp b c) k))

-- a name that is neither before another nor the other is after it
after_by : (o : Ordering) → is_lt o ≡ false → is_eq o ≡ false → is_lt (ordering_reverse o) ≡ true
after_by Less h k = absurd (true≢false h)
after_by Equal h k = absurd (true≢false k)
after_by Greater h k = refl

before-other : (a b : Text) → is_before b a ≡ false → bytes_eq b a ≡ false → is_before a b ≡ true
before-other a b h k = ap is_lt (nat_list_cmp_total.antisymm a b) ∙ after_by (slice_cmp nat_cmp b a) h (is_eq-slice_cmp b a ∙ k)

-- ---- a parameter is put at its place

abbrev AllAfter : Text → List Pair → Type 0
AllAfter name ps = AllByRecursion (λ q. is_before name q.0 ≡ true) ps

all-later : (a b : Text) (ps : List Pair) → is_before a b ≡ true → AllAfter b ps → AllAfter a ps
all-later a b [] h k = tt
all-later a b (p ∷ ps) h k = (before-trans a b p.0 h k.0, all-later a b ps h k.1)

put-after : (name : Text) (p : Pair) (ps : List Pair) → is_before name p.0 ≡ true → AllAfter name ps → AllAfter name (put p ps)
put-after name p [] h k = (h, tt)
put-after name p (q ∷ qs) h k = by (is_before q.0 p.0) (bytes_eq q.0 p.0) (put-after name p qs h k.1)
  where
    by : (b e : Bool) → AllAfter name (put p qs) → AllAfter name (if b then q ∷ put p qs else (if e then p ∷ qs else p ∷ q ∷ qs))
    by true e x = (k.0, x)
    by false true x = (h, k.1)
    by false false x = (h, k)

pub put-ordered : PutKeepsOrder
put-ordered p [] o = (tt, tt)
put-ordered p (q ∷ qs) o = by (is_before q.0 p.0) (bytes_eq q.0 p.0) refl refl (put-ordered p qs o.1)
  where
    by : (b e : Bool) → is_before q.0 p.0 ≡ b → bytes_eq q.0 p.0 ≡ e → AreOrdered (put p qs) → AreOrdered (if b then q ∷ put p qs else (if e then p ∷ qs else p ∷ q ∷ qs))
    by true e h k x = (put-after q.0 p qs h o.0, x)
    by false true h k x = (subst (λ (n : Text). AllAfter n qs) ((bytes_eq-Decides q.0 p.0).0 k) o.0, o.1)
    by false false h k x = let f : is_before p.0 q.0 ≡ true = before-other p.0 q.0 h k in ((f, all-later p.0 q.0 qs f o.0), o)
