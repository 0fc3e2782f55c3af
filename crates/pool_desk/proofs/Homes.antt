-- Links that are at home stay so.
use Rattle.std.proofs.Common.{◌≡◌, ℕ, Bool, true, false, cond, not, List, [], ◌∷◌, ◌++◌, Option, None, Some, refl, sym, subst}
use Rattle.std.specs.Prelude.{IfSome, filter, find}
use Rattle.link_run.specs.Links.{LinkView}
use Rattle.book_model.specs.declared.events.Reply.{Reply}
use Rattle.lease_book.specs.Links.{found, goes_out, handed_after, handed_back, idle_after, is_done, is_numbered, left}
use Rattle.lease_book.specs.declared.events.BookEvent.{BookEvent}
use Rattle.lease_book.specs.declared.events.BookEvent.TheVariants as event
use Rattle.desk_tallies.specs.Homes.{HomeOf, IsAtHome}
use Rattle.pool_desk.specs.Joined.{AreAtHome, brought}

home_filter : (home : HomeOf) (test : LinkView → Bool) (links : List LinkView) → AreAtHome home links → AreAtHome home (filter test links)
home_filter home test [] h = h
home_filter home test (l ∷ ls) h = go (test l) (home_filter home test ls h.1)
  where
    go : (b : Bool) → AreAtHome home (filter test ls) → AreAtHome home (cond b (l ∷ filter test ls) (filter test ls))
    go true rest = (h.0, rest)
    go false rest = rest

home_find : (home : HomeOf) (test : LinkView → Bool) (links : List LinkView) → AreAtHome home links → IfSome (find test links) (IsAtHome home)
home_find home test [] h = tt
home_find home test (l ∷ ls) h = go (test l) (home_find home test ls h.1)
  where
    go : (b : Bool) → IfSome (find test ls) (IsAtHome home) → IfSome (cond b (Some l) (find test ls)) (IsAtHome home)
    go true rest = h.0
    go false rest = rest

home_push : (home : HomeOf) (links : List LinkView) (l : LinkView) → AreAtHome home links → IsAtHome home l → AreAtHome home (links ++ l ∷ [])
home_push home [] l h at = (at, tt)
home_push home (x ∷ xs) l h at = (h.0, home_push home xs l h.1 at)

home_left : (home : HomeOf) (o : Option ℕ) (links : List LinkView) → AreAtHome home links → AreAtHome home (left o links)
home_left home None links h = h
home_left home (Some n) links h = home_filter home (λ l. not (is_numbered n l)) links h

home_found : (home : HomeOf) (o : Option ℕ) (links : List LinkView) → AreAtHome home links → IfSome (found o links) (IsAtHome home)
home_found home None links h = tt
home_found home (Some n) links h = home_find home (is_numbered n) links h

module _ {E : Type 0} where
  home_after : (home : HomeOf) (e : BookEvent E) (r : Reply) (idle : List LinkView) → AreAtHome home idle → IfSome (brought e) (IsAtHome home) → AreAtHome home (idle_after e r idle)
  home_after home (event.Plain e) r idle h b = home_left home (goes_out r) idle h
  home_after home (event.GiveBack l) r idle h b = go (is_done r)
    where
      go : (done : Bool) → AreAtHome home (cond done (idle ++ l ∷ []) idle)
      go true = home_push home idle l h b
      go false = h

  home_handed : (home : HomeOf) (e : BookEvent E) (r : Reply) (idle : List LinkView) → AreAtHome home idle → IfSome (brought e) (IsAtHome home) → IfSome (handed_after e r idle) (IsAtHome home)
  home_handed home (event.Plain e) r idle h b = home_found home (goes_out r) idle h
  home_handed home (event.GiveBack l) r idle h b = go (is_done r)
    where
      go : (done : Bool) → IfSome (cond done None (Some l)) (IsAtHome home)
      go true = tt
      go false = b

  pub stay_home : (home : HomeOf) (e : BookEvent E) (r : Reply) (idle next : List LinkView) → AreAtHome home idle → IfSome (brought e) (IsAtHome home) → next ≡ idle_after e r idle → AreAtHome home next
  stay_home home e r idle next h b is = subst (AreAtHome home) (sym is) (home_after home e r idle h b)

  pub comes_home : (home : HomeOf) (e : BookEvent E) (r : Reply) (idle : List LinkView) (back : Option LinkView) → AreAtHome home idle → IfSome (brought e) (IsAtHome home) → back ≡ handed_after e r idle → IfSome back (IsAtHome home)
  comes_home home e r idle back h b is = subst (λ (o : Option LinkView). IfSome o (IsAtHome home)) (sym is) (home_handed home e r idle h b)

  -- a link that is given back comes back as its reply says
  pub handed_of_return : (e : BookEvent E) (r : Reply) (idle : List LinkView) → IfSome (brought e) (λ l. handed_after e r idle ≡ handed_back l r)
  handed_of_return (event.Plain e) r idle = tt
  handed_of_return (event.GiveBack l) r idle = refl

  pub comes_back : (e : BookEvent E) (back : Option LinkView) (r told : Reply) (idle : List LinkView) → back ≡ handed_after e told idle → r ≡ told → IfSome (brought e) (λ l. back ≡ handed_back l r)
  comes_back e back r told idle is same =
      subst (λ (o : Option LinkView). IfSome (brought e) (λ l. o ≡ handed_back l r)) (sym is)
      (subst (λ (x : Reply). IfSome (brought e) (λ l. handed_after e told idle ≡ handed_back l x)) (sym same) (handed_of_return e told idle))
