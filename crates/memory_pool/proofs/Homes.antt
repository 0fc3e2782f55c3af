-- Links that stay at home in the book.
use Rattle.std.proofs.Common.{◌≡◌, ℕ, List, [], ◌∷◌, ◌++◌, Option, Some, None, find, cond, Bool, true, false}
use Rattle.std.specs.Prelude.{IfSome, not}
use Rattle.session_values.proofs.Alls.{OfSome, all-append, all-filter, all-find}
use Rattle.session_values.specs.State.{CatalogueOf, StartKeyOf}
use Rattle.start_keys.specs.Keys.{same_key}
use Rattle.start_keys.specs.SameKeys.{same_keys-one}
use Rattle.link_run.specs.Links.{LinkView}
use Rattle.book_model.specs.declared.events.Reply.{Reply}
use Rattle.lease_book.specs.declared.events.BookEvent.{BookEvent}
use Rattle.lease_book.specs.declared.events.BookEvent.TheVariants as event
use Rattle.lease_book.specs.Links.{found, goes_out, handed_after, idle_after, is_done, is_numbered, left}
use Rattle.memory_pool.specs.MemoryPools.{AreAtHome, IsAtHome, IsBroughtHome}

all-left : (cat : CatalogueOf) (o : Option ℕ) (idle : List LinkView) → AreAtHome cat idle → AreAtHome cat (left o idle)
all-left cat None idle h = h
all-left cat (Some n) idle h = all-filter (IsAtHome cat) (λ l. not (is_numbered n l)) idle h

of_some : (cat : CatalogueOf) (o : Option LinkView) → OfSome (IsAtHome cat) o → IfSome o (IsAtHome cat)
of_some cat None h = tt
of_some cat (Some l) h = h

all-found : (cat : CatalogueOf) (o : Option ℕ) (idle : List LinkView) → AreAtHome cat idle → IfSome (found o idle) (IsAtHome cat)
all-found cat None idle h = tt
all-found cat (Some n) idle h = of_some cat (find (is_numbered n) idle) (all-find (IsAtHome cat) (is_numbered n) idle h)

all-with : (cat : CatalogueOf) (l : LinkView) (b : Bool) (idle : List LinkView) → IsAtHome cat l → AreAtHome cat idle → AreAtHome cat (cond b (idle ++ l ∷ []) idle)
all-with cat l true idle k h = all-append (IsAtHome cat) idle (l ∷ []) h (k, tt)
all-with cat l false idle k h = h

one-back : (cat : CatalogueOf) (l : LinkView) (b : Bool) → IsAtHome cat l → IfSome (cond b None (Some l)) (IsAtHome cat)
one-back cat l true k = tt
one-back cat l false k = k

module _ {E : Type 0} where
  pub stays_home : (cat : CatalogueOf) (e : BookEvent E) (r : Reply) (idle : List LinkView) → IsBroughtHome cat e → AreAtHome cat idle → AreAtHome cat (idle_after e r idle)
  stays_home cat (event.GiveBack l) r idle k h = all-with cat l (is_done r) idle k h
  stays_home cat (event.Plain e) r idle k h = all-left cat (goes_out r) idle h

  pub handed_home : (cat : CatalogueOf) (e : BookEvent E) (r : Reply) (idle : List LinkView) → IsBroughtHome cat e → AreAtHome cat idle → IfSome (handed_after e r idle) (IsAtHome cat)
  handed_home cat (event.GiveBack l) r idle k h = one-back cat l (is_done r) k
  handed_home cat (event.Plain e) r idle k h = all-found cat (goes_out r) idle h

-- keys that the comparison finds the same are one key
pub of_same_key : (a b : StartKeyOf) → same_key a b ≡ true → a ≡ b
of_same_key a b e = (same_keys-one a b).0 e
