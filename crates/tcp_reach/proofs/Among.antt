-- Places among others.
use Rattle.std.proofs.Common.{◌≡◌, ℕ, Bool, true, suc, ◌<◌, List, [], ◌∷◌, ◌++◌, refl, sym, length, subst, ◌∙◌, arith}
use Rattle.std.specs.Prelude.{All, Contains, slice_index_or, bytes_eq}
use Rattle.std.proofs.lemmas.List.Elements.{All-append, All-contains_itself, All-push}
use Rattle.std.specs.List.{list_any}
use Rattle.std.proofs.lemmas.Map.Views.{Contains-from_any}
use Rattle.std.proofs.lemmas.Slice.Eq.{bytes_eq-Decides}
use Rattle.tcp_reach.specs.Places.{PlaceOf, IsPlaceAt, IsPlaceOf, hosts_of}
use Rattle.tcp_reach.specs.Streams.{StreamOf, new_stream, IsSentTo}

-- a stream to a place that was found in a list leads to one of that list
pub leads : (xs : List PlaceOf) (k : ℕ) (x : PlaceOf) (s : StreamOf) → k < length xs → x ≡ slice_index_or xs k x → s ≡ new_stream x → (s ≡ new_stream s.place) × Contains xs s.place
leads xs k x s fits is e = rw e (refl, (k, fits, sym is))

-- places that were found so far are a row's, and hosts that are left are
pub record AreOwn (text : List ℕ) (port : ℕ) (places : List PlaceOf) (left : List (List ℕ)) : Type 0 where
  pub known : All (IsPlaceOf text port) places
  pub hosts : All (Contains (hosts_of text)) left

pub begin : (text : List ℕ) (port : ℕ) (places : List PlaceOf) (left : List (List ℕ)) → places ≡ [] → left ≡ hosts_of text → AreOwn text port places left
begin text port places left none all = rw (none, all) (record { known = λ k d fits. absurd (omega (arith, fits)); hosts = All-contains_itself (hosts_of text) })

-- one host fewer
pub skip : (text : List ℕ) (port : ℕ) (places : List PlaceOf) (left rest : List (List ℕ)) (one : List ℕ) → AreOwn text port places left → left ≡ one ∷ rest → AreOwn text port places rest
skip text port places left rest one own is =
    let hosts : All (Contains (hosts_of text)) (one ∷ rest) = subst (All (Contains (hosts_of text))) is own.hosts in
    record { known = own.known; hosts = λ k d fits. hosts (suc k) d (omega (arith, fits)) }

-- the places of one host are a row's
pub of_row : (text : List ℕ) (port : ℕ) (host : List ℕ) (xs : List PlaceOf) → Contains (hosts_of text) host → All (IsPlaceAt host port) xs → All (IsPlaceOf text port) xs
of_row text port host xs is found k d fits = let p = found k d fits in (subst (Contains (hosts_of text)) (sym p.0) is, p.1)

-- and stand behind others
pub add : (text : List ℕ) (port : ℕ) (places more found : List PlaceOf) (left rest : List (List ℕ)) (one : List ℕ) → AreOwn text port places left → left ≡ one ∷ rest → All (IsPlaceAt one port) found → more ≡ places ++ found → AreOwn text port more rest
add text port places more found left rest one own is at e =
    let hosts : All (Contains (hosts_of text)) (one ∷ rest) = subst (All (Contains (hosts_of text))) is own.hosts in
    record {
      known = subst (All (IsPlaceOf text port)) (sym e) (All-append (IsPlaceOf text port) places found own.known (of_row text port one found (hosts 0 [] (omega arith)) at));
      hosts = λ k d fits. hosts (suc k) d (omega (arith, fits));
    }

-- a host that passes the test is one of them
pub found : (text host : List ℕ) (r : Bool) → r ≡ list_any (bytes_eq host) (hosts_of text) → r ≡ true → Contains (hosts_of text) host
found text host r is passed = Contains-from_any (λ x y. (bytes_eq-Decides x y).0) host (hosts_of text) (sym is ∙ passed)

-- what was sent to one more place of a row
pub sent_more : (hosts : List ℕ) (port : ℕ) (message : List ℕ) (places places' : List PlaceOf) (k : ℕ) (x : PlaceOf) (before more : List StreamOf) (s : StreamOf) → All (IsPlaceOf hosts port) places → places' ≡ places → k < length places' → x ≡ slice_index_or places' k x → s ≡ record { place = x; sent = message } → All (IsSentTo hosts port message) before → more ≡ before ++ s ∷ [] → All (IsSentTo hosts port message) more
sent_more hosts port message places places' k x before more s own same fits is e known more_is =
    let own' : All (IsPlaceOf hosts port) places' = subst (All (IsPlaceOf hosts port)) (sym same) own in
    let at : IsPlaceOf hosts port x = subst (IsPlaceOf hosts port) (sym is) (own' k x fits) in
    let here : IsSentTo hosts port message s = subst (IsSentTo hosts port message) (sym e) (at, refl) in
    subst (All (IsSentTo hosts port message)) (sym more_is) (All-push (IsSentTo hosts port message) before s known here)

-- and to one alone
pub sent_once : (hosts : List ℕ) (port : ℕ) (message : List ℕ) (x : PlaceOf) (s : StreamOf) (before more : List StreamOf) → IsPlaceOf hosts port x → s ≡ record { place = x; sent = message } → before ≡ [] → more ≡ before ++ s ∷ [] → All (IsSentTo hosts port message) more
sent_once hosts port message x s before more at e none more_is =
    let here : IsSentTo hosts port message s = subst (IsSentTo hosts port message) (sym e) (at, refl) in
    let nothing : All (IsSentTo hosts port message) before = rw none (λ k d fits. absurd (omega (arith, fits))) in
    subst (All (IsSentTo hosts port message)) (sym more_is) (All-push (IsSentTo hosts port message) before s nothing here)
