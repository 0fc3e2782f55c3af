-- Places of names, among others.
use Rattle.std.proofs.Common.{◌≡◌, ℕ, ◌<◌, List, [], ◌∷◌, ◌++◌, sym, length, subst}
use Rattle.std.specs.Prelude.{All, Contains, slice_index_or}
use Rattle.std.proofs.lemmas.List.Elements.{All-append, All-contains, All-push}
use Rattle.tcp_reach.specs.Places.{PlaceOf, IsPlaceOf}
use Rattle.tcp_listen.specs.Listening.{IsListenedAt}

-- one place more of a list
pub one_more : (all places more : List PlaceOf) (k : ℕ) (x : PlaceOf) → k < length all → x ≡ slice_index_or all k x → All (Contains all) places → more ≡ places ++ x ∷ [] → All (Contains all) more
one_more all places more k x fits is known e = subst (All (Contains all)) (sym e) (All-push (Contains all) places x known (k, fits, sym is))

-- one listener more, at a place of a list that is a part of those that may be listened at; both lists as slices too
pub at_one_more : (P : PlaceOf → Type 0) (all all' some some' places more : List PlaceOf) (k : ℕ) (x l : PlaceOf) → All P all → all' ≡ all → All (Contains all') some → some' ≡ some → k < length some' → x ≡ slice_index_or some' k x → l ≡ x → All P places → more ≡ places ++ l ∷ [] → All P more
at_one_more P all all' some some' places more k x l may same part same' fits is at known e =
    let part' : All (Contains all) some' = subst (λ a. All (Contains a) some') same (subst (All (Contains all')) (sym same') part) in
    let own : Contains all x = subst (Contains all) (sym is) (part' k x fits) in
    subst (All P) (sym e) (All-push P places l known (subst P (sym at) (All-contains P all x may own)))

-- the places of a name that is one of a list, by its text, behind others
pub of_name : (names : List (List ℕ)) (port k : ℕ) (name text : List ℕ) (places more found : List PlaceOf) → k < length names → name ≡ slice_index_or names k name → text ≡ name → All (IsListenedAt names port) places → All (IsPlaceOf text port) found → more ≡ places ++ found → All (IsListenedAt names port) more
of_name names port k name text places more found fits is same known own e =
    let own' : All (IsPlaceOf name port) found = subst (λ t. All (IsPlaceOf t port) found) same own in
    let one : All (IsListenedAt names port) found = λ i d under. (name, (k, fits, sym is), own' i d under) in
    subst (All (IsListenedAt names port)) (sym e) (All-append (IsListenedAt names port) places found known one)
