-- The stand-in server's start key of a key's pairs has that key's database, user and parameters.
use Rattle.std.proofs.Common.{◌≡◌, ◌<◌, Bool, true, false, List, [], ◌∷◌, ◌++◌, length, refl, sym, ap, ap₂, ◌∙◌, arith, append_assoc, append-nil, Result, Ok}
use Rattle.std.specs.Prelude.{fold, ◌||◌, ◌==◌, bytes_eq, codes}
use Rattle.std.proofs.lemmas.Bool.{true≢false, ne_eqb}
use Rattle.std.specs.List.{AllByRecursion}
use Rattle.message_view.specs.Spelled.{FitsPair}
use Rattle.mini_sql.specs.Words as words
use Rattle.start_keys.specs.declared.cause.Cause.{Cause}
use Rattle.start_keys.specs.State.{StartKeyOf}
use Rattle.start_keys.specs.Lawful.{is_before, is_identity, AreOrdered, IsFollowedName, IsLawfulParameter, IsClientKey}
use Rattle.start_keys.proofs.Alls.{all-as, plain-text}
use Rattle.start_keys.specs.StartPairs.{Text, Pair, put, value_after, user_in, database_in, if_empty}
use Rattle.start_keys.specs.StubKeys.{put_parameter, stub_parameters, stub}
use Rattle.key_laws.specs.Keys.{key_pairs, KeyPairsFit, StubsOfClientKeys}

-- ---- the pairs can be spelled

parameter-fits : (p : Pair) → IsLawfulParameter p → FitsPair p
parameter-fits p h = h.0

pub key_pairs-fit : KeyPairsFit
key_pairs-fit key k = (record { some = omega arith; name = plain-text (codes "user") refl; value = k.user }, (record { some = omega arith; name = plain-text (codes "database") refl; value = k.dbname }, all-as IsLawfulParameter FitsPair parameter-fits key.parameters k.parameters))

-- ---- parameters that stand in their order are put at the end, one after the other

abbrev AllBefore : Pair → List Pair → Type 0
AllBefore p kept = AllByRecursion (λ q. is_before q.0 p.0 ≡ true) kept

put_last : (p : Pair) (kept : List Pair) → AllBefore p kept → put p kept ≡ kept ++ p ∷ []
put_last p [] h = refl
put_last p (q ∷ kept) h = rw (h.0, put_last p kept h.1) refl

-- each of the first list stands before all of the second
abbrev Apart : List Pair → List Pair → Type 0
Apart kept [] = Unit {0}
Apart kept (p ∷ ps) = AllBefore p kept × Apart kept ps

all-snoc : (p q : Pair) (kept : List Pair) → AllBefore p kept → is_before q.0 p.0 ≡ true → AllBefore p (kept ++ q ∷ [])
all-snoc p q [] h e = (e, tt)
all-snoc p q (r ∷ kept) h e = (h.0, all-snoc p q kept h.1 e)

apart-snoc : (q : Pair) (kept ps : List Pair) → Apart kept ps → AllByRecursion (λ p. is_before q.0 p.0 ≡ true) ps → Apart (kept ++ q ∷ []) ps
apart-snoc q kept [] h e = tt
apart-snoc q kept (p ∷ ps) h e = (all-snoc p q kept h.0 e.0, apart-snoc q kept ps h.1 e.1)

abbrev AreFollowed : List Pair → Type 0
AreFollowed ps = AllByRecursion IsFollowedName ps

abbrev pair : Text → Text → Pair
pair n v = (n, v)

put_one : (kept : List Pair) (p : Pair) → is_identity p.0 ≡ false → words.folded p.0 ≡ p.0 → AllBefore p kept → put_parameter kept p ≡ kept ++ p ∷ []
put_one kept p i l h = rw i (ap (λ (n : Text). put (pair n p.1) kept) l ∙ put_last p kept h)

fold_ordered : (kept ps : List Pair) → Apart kept ps → AreOrdered ps → AreFollowed ps → fold put_parameter kept ps ≡ kept ++ ps
fold_ordered kept [] h o n = sym (append-nil kept)
fold_ordered kept (p ∷ ps) h o n =
    ap (λ (x : List Pair). fold put_parameter x ps) (put_one kept p n.0.1 n.0.0 h.0)
    ∙ fold_ordered (kept ++ p ∷ []) ps (apart-snoc p kept ps h.1 o.0) o.1 n.1
    ∙ append_assoc kept (p ∷ []) ps

apart_none : (ps : List Pair) → Apart [] ps
apart_none [] = tt
apart_none (p ∷ ps) = (tt, apart_none ps)

stub-parameters : (key : StartKeyOf) → IsClientKey key → stub_parameters (key_pairs key) ≡ key.parameters
stub-parameters key k = fold_ordered [] key.parameters (apart_none key.parameters) k.lawful.ordered k.names

-- ---- user and database

or_false : (a b : Bool) → (a || b) ≡ false → (a ≡ false) × (b ≡ false)
or_false true b e = absurd (true≢false e)
or_false false b e = (refl, e)

abbrev NoneNamed : Text → List Pair → Type 0
NoneNamed name ps = AllByRecursion (λ p. bytes_eq p.0 name ≡ false) ps

value-none : (found name : Text) (ps : List Pair) → NoneNamed name ps → value_after found name ps ≡ found
value-none found name [] h = refl
value-none found name (p ∷ ps) h = rw h.0 (value-none found name ps h.1)

none_user : (ps : List Pair) → AreFollowed ps → NoneNamed (codes "user") ps
none_user [] o = tt
none_user (p ∷ ps) o = ((or_false (bytes_eq p.0 (codes "user")) (bytes_eq p.0 (codes "database")) o.0.1).0, none_user ps o.1)

none_database : (ps : List Pair) → AreFollowed ps → NoneNamed (codes "database") ps
none_database [] o = tt
none_database (p ∷ ps) o = ((or_false (bytes_eq p.0 (codes "user")) (bytes_eq p.0 (codes "database")) o.0.1).1, none_database ps o.1)

user-is : (key : StartKeyOf) → IsClientKey key → user_in (key_pairs key) ≡ key.user
user-is key k = value-none key.user (codes "user") key.parameters (none_user key.parameters k.names)

not_empty : (t other : Text) → 0 < length t → if_empty t other ≡ t
not_empty t other h = rw (ne_eqb (length t) 0 (λ e. absurd (omega (arith, h, e)))) refl

database-is : (key : StartKeyOf) → IsClientKey key → 0 < length key.dbname → database_in (key_pairs key) ≡ key.dbname
database-is key k some =
    let v : value_after [] (codes "database") (key_pairs key) ≡ key.dbname = value-none key.dbname (codes "database") key.parameters (none_database key.parameters k.names) in
    ap (λ (t : Text). if_empty t (user_in (key_pairs key))) v ∙ not_empty key.dbname (user_in (key_pairs key)) some

-- ---- the key

pub stub-ok : StubsOfClientKeys
stub-ok key k some =
    let u : (length (user_in (key_pairs key)) == 0) ≡ false = ap (λ (t : Text). length t == 0) (user-is key k) ∙ ne_eqb (length key.user) 0 (λ e. absurd (let h : 0 < length key.user = k.lawful.has_user in omega (arith, h, e))) in
    rw u (ap₂ (λ (d : Text) (x : Text × List Pair). ok (stub d x.0 x.1)) (database-is key k some) (ap₂ (λ (n : Text) (ps : List Pair). (n, ps)) (user-is key k) (stub-parameters key k)))
  where
    ok : StartKeyOf → Result StartKeyOf Cause
    ok x = Ok x
