-- Keys are found to be the same just where they are one.
use Rattle.std.proofs.Common.{◌≡◌, ℕ, List, [], ◌∷◌, Option, Some, None, Bool, true, false, ◌&&◌, ◌==◌, refl, ap, ap₂, subst, eqb-true}
use Rattle.std.specs.Prelude.{bytes_eq}
use Rattle.std.specs.Cmp.{nat_eq_equiv}
use Rattle.std.specs.Cmp.Lexicographic.{nat_list_eq_equiv}
use Rattle.std.proofs.lemmas.Bool.{false≢true}
use Rattle.std.proofs.lemmas.Slice.Eq.{bytes_eq-Decides}
use Rattle.session_values.specs.State.{StartKeyOf}
use Rattle.start_keys.specs.StartPairs.{Text, Pair}
use Rattle.start_keys.specs.Keys.{same_host, same_pair, same_pairs, same_key, SameKeysAreOne}

both : (a b : Bool) → (a && b) ≡ true → (a ≡ true) × (b ≡ true)
both true b e = (refl, e)
both false b e = absurd (false≢true e)

text-is : (a b : Text) → bytes_eq a b ≡ true → a ≡ b
text-is a b e = (bytes_eq-Decides a b).0 e

host-is : (a b : Option (List ℕ)) → same_host a b ≡ true → a ≡ b
host-is None None e = refl
host-is (Some a) (Some b) e = ap Some (text-is a b e)
host-is None (Some b) e = absurd (false≢true e)
host-is (Some a) None e = absurd (false≢true e)

pairs-are : (a b : List Pair) → same_pairs a b ≡ true → a ≡ b
pairs-are [] [] e = refl
pairs-are [] (q ∷ qs) e = absurd (false≢true e)
pairs-are (p ∷ ps) [] e = absurd (false≢true e)
pairs-are (p ∷ ps) (q ∷ qs) e =
    let x = both (same_pair p q) (same_pairs ps qs) e in
    let y = both (bytes_eq p.0 q.0) (bytes_eq p.1 q.1) x.0 in
    ap₂ (λ (r : Pair) (rs : List Pair). r ∷ rs) (ap₂ (λ (n v : Text). (n, v)) (text-is p.0 q.0 y.0) (text-is p.1 q.1 y.1)) (pairs-are ps qs x.1)

key-is : (a b : StartKeyOf) → same_key a b ≡ true → a ≡ b
key-is a b e =
    let x = both (bytes_eq a.row b.row) _ e in
    let y = both (same_host a.host b.host) _ x.1 in
    let z = both (a.port == b.port) _ y.1 in
    let u = both (bytes_eq a.dbname b.dbname) _ z.1 in
    let v = both (bytes_eq a.user b.user) (same_pairs a.parameters b.parameters) u.1 in
    rw (text-is a.row b.row x.0, host-is a.host b.host y.0, eqb-true a.port b.port z.0, text-is a.dbname b.dbname u.0, text-is a.user b.user v.0, pairs-are a.parameters b.parameters v.1) refl

text-self : (t : Text) → bytes_eq t t ≡ true
text-self t = nat_list_eq_equiv.refl t

host-self : (h : Option (List ℕ)) → same_host h h ≡ true
host-self None = refl
host-self (Some h) = text-self h

pairs-self : (ps : List Pair) → same_pairs ps ps ≡ true
pairs-self [] = refl
pairs-self (p ∷ ps) = rw (text-self p.0, text-self p.1, pairs-self ps) refl

key-self : (k : StartKeyOf) → same_key k k ≡ true
key-self k = rw (text-self k.row, host-self k.host, nat_eq_equiv.refl k.port, text-self k.dbname, text-self k.user, pairs-self k.parameters) refl

pub same_keys-one : SameKeysAreOne
same_keys-one a b = (key-is a b, λ e. subst (λ (k : StartKeyOf). same_key a k ≡ true) e (key-self a))
