-- Links that aren't fresh stand before all that are, whichever comes or goes.
use Rattle.std.proofs.Common.{◌≡◌, ℕ, suc, ◌≤◌, Bool, true, false, cond, not, ◌&&◌, ◌||◌, List, [], ◌∷◌, ◌++◌, filter, count_by, Option, None, Some, refl, sym, ap, ◌∙◌, subst, arith, le_refl, eq-eqb}
use Rattle.std.proofs.lemmas.Bool.{leb-true, true≢false}
use Rattle.std.proofs.lemmas.Option.{none-some, same_Some}
use Rattle.session_values.specs.State.{StartKeyOf}
use Rattle.start_keys.specs.Keys.{same_key}
use Rattle.book_model.specs.Book.{Link, find_last, if_fresh, is_fresh, is_link, latest_of, lendable, or_else, without}
use Rattle.book_model.specs.Kept.{AreFresh, KeptFresh, KeptLinks, StaleFirst}
use Rattle.book_model.proofs.KeepingLists.{counted_as}

-- ---- the lists without some, and with one more

fresh_left : (first : ℕ) (test : Link → Bool) (links : List Link) → AreFresh first links → AreFresh first (filter test links)
fresh_left first test [] h = tt
fresh_left first test (l ∷ ls) h = go (test l) (fresh_left first test ls h.1)
  where
    go : (b : Bool) → AreFresh first (filter test ls) → AreFresh first (cond b (l ∷ filter test ls) (filter test ls))
    go true rest = (h.0, rest)
    go false rest = rest

stale_left : (first : ℕ) (test : Link → Bool) (links : List Link) → StaleFirst first links → StaleFirst first (filter test links)
stale_left first test [] h = tt
stale_left first test (l ∷ ls) h = go (test l) (stale_left first test ls h.1)
  where
    go : (b : Bool) → StaleFirst first (filter test ls) → StaleFirst first (cond b (l ∷ filter test ls) (filter test ls))
    go true rest = (λ e. fresh_left first test ls (h.0 e), rest)
    go false rest = rest

fresh_more : (first : ℕ) (links : List Link) (link : Link) → is_fresh first link ≡ true → AreFresh first links → AreFresh first (links ++ link ∷ [])
fresh_more first [] link e h = (e, tt)
fresh_more first (l ∷ ls) link e h = (h.0, fresh_more first ls link e h.1)

stale_more : (first : ℕ) (links : List Link) (link : Link) → is_fresh first link ≡ true → StaleFirst first links → StaleFirst first (links ++ link ∷ [])
stale_more first [] link e h = (λ k. tt, tt)
stale_more first (l ∷ ls) link e h = (λ k. fresh_more first ls link e (h.0 k), stale_more first ls link e h.1)

-- where no number is used from this one on
all_stale : (first : ℕ) (links : List Link) → ((n : ℕ) → first ≤ n → count_by (is_link n) links ≡ 0) → StaleFirst first links
all_stale first [] h = tt
all_stale first (l ∷ ls) h = (
  λ e. absurd (omega (arith, h l.number (leb-true first l.number e), counted_as (is_link l.number) l ls true (eq-eqb l.number l.number refl))),
  all_stale first ls (λ n k. omega (arith, h n k, counted_as (is_link n) l ls (is_link n l) refl)),
)

-- ---- as links come and go

pub idle_leaves : (k : ℕ) (idle : List Link) (first next : ℕ) → KeptFresh idle first next → KeptFresh (without k idle) first next
idle_leaves k idle first next h = record { next_too = h.next_too; in_order = stale_left first (λ l. not (is_link k l)) idle h.in_order }

pub fresh_returns : (idle : List Link) (first next : ℕ) (link : Link) → is_fresh first link ≡ true → KeptFresh idle first next → KeptFresh (idle ++ link ∷ []) first next
fresh_returns idle first next link e h = record { next_too = h.next_too; in_order = stale_more first idle link e h.in_order }

pub number_taken : (idle : List Link) (first next : ℕ) → KeptFresh idle first next → KeptFresh idle first (suc next)
number_taken idle first next h = record { next_too = omega (arith, h.next_too); in_order = h.in_order }

pub all_renewed : (lent idle : List Link) (next : ℕ) → KeptLinks lent idle next → KeptFresh idle next next
all_renewed lent idle next h = record { next_too = le_refl next; in_order = all_stale next idle (λ n k. omega (arith, h.fresh n k)) }

-- what isn't closed at its return is fresh
pub kept_is_fresh : (late shut fresh crowded : Bool) → ((late || (shut || not fresh)) || crowded) ≡ false → fresh ≡ true
kept_is_fresh true shut fresh crowded e = absurd (true≢false e)
kept_is_fresh false true fresh crowded e = absurd (true≢false e)
kept_is_fresh false false true crowded e = refl
kept_is_fresh false false false crowded e = absurd (true≢false e)

-- ---- the link that may be lent

fresh_is : (first : ℕ) (o : Option Link) (link : Link) → if_fresh first o ≡ Some link → (o ≡ Some link) × (is_fresh first link ≡ true)
fresh_is first None link e = absurd (none-some _ e)
fresh_is first (Some l) link e = go (is_fresh first l) refl e
  where
    go : (b : Bool) → is_fresh first l ≡ b → cond b (Some l) None ≡ Some link → (Some l ≡ Some link) × (is_fresh first link ≡ true)
    go true f p = (p, subst (λ (m : Link). is_fresh first m ≡ true) (same_Some _ _ p) f)
    go false f p = absurd (none-some _ p)

-- it is the latest of its key, and fresh
pub lendable_is : (first : ℕ) (key : StartKeyOf) (idle : List Link) (link : Link) → lendable first key idle ≡ Some link → (latest_of key idle ≡ Some link) × (is_fresh first link ≡ true)
lendable_is first key idle link e = fresh_is first (latest_of key idle) link e

last_fresh : (first : ℕ) (test : Link → Bool) (links : List Link) (link : Link) → AreFresh first links → find_last test links ≡ Some link → is_fresh first link ≡ true
last_fresh first test [] link h e = absurd (none-some _ e)
last_fresh first test (l ∷ ls) link h e = go (find_last test ls) refl (test l) e (last_fresh first test ls link h.1)
  where
    go : (o : Option Link) → find_last test ls ≡ o → (b : Bool) → or_else o (cond b (Some l) None) ≡ Some link → (find_last test ls ≡ Some link → is_fresh first link ≡ true) → is_fresh first link ≡ true
    go None f true p ih = subst (λ (m : Link). is_fresh first m ≡ true) (same_Some _ _ p) h.0
    go None f false p ih = absurd (none-some _ p)
    go (Some m) f b p ih = ih (f ∙ p)

abbrev passes_fresh : ℕ → (Link → Bool) → Link → Bool
passes_fresh first test l = test l && is_fresh first l

-- the last that passes is, where it is fresh, the last of the fresh ones that pass
last_of_fresh : (first : ℕ) (test : Link → Bool) (links : List Link) → StaleFirst first links → if_fresh first (find_last test links) ≡ find_last (passes_fresh first test) links
last_of_fresh first test [] h = refl
last_of_fresh first test (l ∷ ls) h = go (find_last test ls) refl (last_of_fresh first test ls h.1)
  where
    alone : (b c : Bool) → is_fresh first l ≡ c → if_fresh first (cond b (Some l) None) ≡ cond (b && c) (Some l) None
    alone true c e = ap (λ (v : Bool). cond {A = Option Link} v (Some l) None) e
    alone false c e = refl

    behind : (m : Link) → find_last test ls ≡ Some m → (b c d : Bool) → is_fresh first l ≡ c → is_fresh first m ≡ d → cond d (Some m) None ≡ or_else (cond d (Some m) None) (cond (b && c) (Some l) None)
    behind m e b c true f g = refl
    behind m e b true false f g = absurd (true≢false (sym (last_fresh first test ls m (h.0 f) e) ∙ g))
    behind m e true false false f g = refl
    behind m e false false false f g = refl

    go : (o : Option Link) → find_last test ls ≡ o → if_fresh first (find_last test ls) ≡ find_last (passes_fresh first test) ls → if_fresh first (or_else o (cond (test l) (Some l) None)) ≡ or_else (find_last (passes_fresh first test) ls) (cond (passes_fresh first test l) (Some l) None)
    go None e ih = alone (test l) (is_fresh first l) refl ∙ ap (λ (o : Option Link). or_else o (cond (passes_fresh first test l) (Some l) None)) (sym (ap (if_fresh first) e) ∙ ih)
    go (Some m) e ih = behind m e (test l) (is_fresh first l) (is_fresh first m) refl refl ∙ ap (λ (o : Option Link). or_else o (cond (passes_fresh first test l) (Some l) None)) (sym (ap (if_fresh first) e) ∙ ih)

pub latest_fresh : (first : ℕ) (key : StartKeyOf) (idle : List Link) → StaleFirst first idle → lendable first key idle ≡ find_last (λ l. same_key l.key key && is_fresh first l) idle
latest_fresh first key idle h = last_of_fresh first (λ l. same_key l.key key) idle h
