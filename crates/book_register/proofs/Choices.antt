-- What the first ticket of a pool is answered, by what is found among the idle links.
use Rattle.std.proofs.Common.{◌≡◌, ◌≤◌, ◌<◌, ◌+◌, ℕ, suc, length, Bool, true, false, List, [], ◌∷◌, Option, None, Some, cond, refl, sym, ap, ◌∙◌, subst, arith, rules, eq-eqb}
use Rattle.std.specs.Prelude.{count_by, find, nat_lt}
use Rattle.std.proofs.lemmas.Bool.Decides.{nat_tests}
use Rattle.book_model.specs.Book.{Book, Link, Ticket, find_last, if_fresh, in_pool, is_fresh, is_link, latest_of, lendable, link_count, or_else, pool_count, pool_size, without}
use Rattle.book_model.specs.Outcomes.{Answer, evicts, grants, starts}
use Rattle.session_values.specs.State.{StartKeyOf}
use Rattle.book_model.proofs.KeepingFresh.{lendable_is}
use Rattle.book_register.specs.Choices.{Chooses, eviction_of, number_if_fresh}
use Rattle.book_rows.specs.Numbered.{number_of}
use Rattle.numbered_rows.proofs.Places.{count-cons}
use Rattle.book_register.specs.declared.book_state.Choice.TheVariants.{Lend, Start}

-- ---- a link by its number

pub known : (o : Option Link) (n : ℕ) → Some n ≡ number_of o → (link : Link) × (o ≡ Some link) × (link.number ≡ n)
known None n e = absurd (cc)
known (Some link) n e = (link, refl, sym (search (rules, e)))

pub unknown : (o : Option Link) → None ≡ number_of o → o ≡ None
unknown None e = refl
unknown (Some link) e = absurd (cc)

own_one : (x l : Link) → x ≡ l → is_link l.number x ≡ true
own_one x l e = eq-eqb x.number l.number (ap (λ (k : Link). k.number) e)

counted_own : (x l : Link) (xs : List Link) → x ≡ l → count_by (is_link l.number) (x ∷ xs) ≡ 1 + count_by (is_link l.number) xs
counted_own x l xs e = count-cons (is_link l.number) x xs ∙ ap (λ b. cond {A = ℕ} b 1 0 + count_by (is_link l.number) xs) (own_one x l e)

same_link : (x l : Link) → Some x ≡ Some l → x ≡ l
same_link x l e = search (rules, e)

counted_step : (p : Link → Bool) (x : Link) (xs : List Link) (l : Link) (o : Option Link) (b : Bool) → find_last p xs ≡ o → or_else o (cond b (Some x) None) ≡ Some l → ((m : Link) → find_last p xs ≡ Some m → 1 ≤ count_by (is_link m.number) xs) → 1 ≤ count_by (is_link l.number) (x ∷ xs)
counted_step p x xs l (Some m) b e f h = omega (arith, count-cons (is_link l.number) x xs, h l (e ∙ f))
counted_step p x xs l None true e f h = omega (arith, counted_own x l xs (same_link x l f))
counted_step p x xs l None false e f h = absurd (cc)

counted_last : (p : Link → Bool) (xs : List Link) (l : Link) → find_last p xs ≡ Some l → 1 ≤ count_by (is_link l.number) xs
counted_last p [] l e = absurd (cc)
counted_last p (x ∷ xs) l e = counted_step p x xs l (find_last p xs) (p x) refl e (λ m f. counted_last p xs m f)

skipped : (x l : Link) (xs : List Link) (b : Bool) → is_link l.number x ≡ b → 1 ≤ count_by (is_link l.number) xs → count_by (is_link l.number) (x ∷ xs) ≤ 1 → find (is_link l.number) xs ≡ Some l → cond b (Some x) (find (is_link l.number) xs) ≡ Some l
skipped x l xs true e some once h = absurd (omega (arith, some, once, count-cons (is_link l.number) x xs ∙ ap (λ b. cond {A = ℕ} b 1 0 + count_by (is_link l.number) xs) e))
skipped x l xs false e some once h = h

found_step : (p : Link → Bool) (x : Link) (xs : List Link) (l : Link) (o : Option Link) (b : Bool) → find_last p xs ≡ o → or_else o (cond b (Some x) None) ≡ Some l → count_by (is_link l.number) (x ∷ xs) ≤ 1
    → (find_last p xs ≡ Some l → count_by (is_link l.number) xs ≤ 1 → find (is_link l.number) xs ≡ Some l) → find (is_link l.number) (x ∷ xs) ≡ Some l
found_step p x xs l (Some m) b e f once h =
    skipped x l xs (is_link l.number x) refl (counted_last p xs l (e ∙ f)) once (h (e ∙ f) (omega (arith, count-cons (is_link l.number) x xs, once)))
found_step p x xs l None true e f once h = ap (λ b. cond {A = Option Link} b (Some x) (find (is_link l.number) xs)) (own_one x l (same_link x l f)) ∙ f
found_step p x xs l None false e f once h = absurd (cc)

-- the last that passes is the one of its number
last_found : (p : Link → Bool) (xs : List Link) (l : Link) → find_last p xs ≡ Some l → count_by (is_link l.number) xs ≤ 1 → find (is_link l.number) xs ≡ Some l
last_found p [] l e once = absurd (cc)
last_found p (x ∷ xs) l e once = found_step p x xs l (find_last p xs) (p x) refl e once (λ f o. last_found p xs l f o)

-- ---- the choice

fresh_is : (first : ℕ) (o : Option Link) → number_of (if_fresh first o) ≡ number_if_fresh first (number_of o)
fresh_is first None = refl
fresh_is first (Some link) = go (is_fresh first link)
  where
    go : (b : Bool) → number_of (cond b (Some link) None) ≡ cond b (Some link.number) None
    go true = refl
    go false = refl

-- the number of the link that may be lent is that of the latest one, where it is fresh
pub fresh_number : (first : ℕ) (key : StartKeyOf) (idle : List Link) → number_of (lendable first key idle) ≡ number_if_fresh first (number_of (latest_of key idle))
fresh_number first key idle = fresh_is first (latest_of key idle)

pub lend_chosen : (b : Book) (t : Ticket) (n : ℕ) → ((m : ℕ) → count_by (is_link m) b.idle ≤ 1) → Some n ≡ number_of (lendable b.fresh_from t.key b.idle) → Chooses b t (Lend n)
lend_chosen b t n once e =
    let k = known (lendable b.fresh_from t.key b.idle) n e in
    (k.0, subst (λ (m : ℕ). find (is_link m) b.idle ≡ Some k.0) k.2 (last_found _ b.idle k.0 (lendable_is b.fresh_from t.key b.idle k.0 k.1).0 (once k.0.number)), ap (grants b t) k.1)

unheld : (b : Book) (t : Ticket) (p s : Bool) → nat_lt (pool_count b t.key) (pool_size b.limits t.key) ≡ p → nat_lt (link_count b) b.limits.max_links ≡ s → lendable b.fresh_from t.key b.idle ≡ None → grants b t (lendable b.fresh_from t.key b.idle) ≡ cond p (cond s (starts b t b.idle None) (evicts b t (find (λ link. true) b.idle))) (evicts b t (find (in_pool t.key) b.idle))
unheld b t p s e f n = ap (grants b t) n ∙ (ap (λ (v : Bool). cond {A = Answer} v (cond (nat_lt (link_count b) b.limits.max_links) (starts b t b.idle None) (evicts b t (find (λ link. true) b.idle))) (evicts b t (find (in_pool t.key) b.idle))) e ∙ ap (λ (v : Bool). cond {A = Answer} p (cond v (starts b t b.idle None) (evicts b t (find (λ link. true) b.idle))) (evicts b t (find (in_pool t.key) b.idle))) f)

pub start_chosen : (b : Book) (t : Ticket) → lendable b.fresh_from t.key b.idle ≡ None → nat_lt (pool_count b t.key) (pool_size b.limits t.key) ≡ true → nat_lt (link_count b) b.limits.max_links ≡ true → Chooses b t Start
start_chosen b t n p s = (grind (arith, nat_tests, s), unheld b t true true p s n)

pub some_length : (p : Link → Bool) (xs : List Link) (l : Link) → find p xs ≡ Some l → 0 < length xs
some_length p [] l e = absurd (cc)
some_length p (x ∷ xs) l e = omega (arith)

eviction : (b : Book) (t : Ticket) (p : Link → Bool) (o : Option ℕ) → grants b t (lendable b.fresh_from t.key b.idle) ≡ evicts b t (find p b.idle) → o ≡ number_of (find p b.idle) → Chooses b t (eviction_of o)
eviction b t p None g e = g ∙ ap (evicts b t) (unknown (find p b.idle) e)
eviction b t p (Some n) g e =
    let k = known (find p b.idle) n e in
    (some_length p b.idle k.0 k.1, g ∙ (ap (evicts b t) k.1 ∙ ap (λ (m : ℕ). starts (record b { evictions = suc b.evictions }) t (without m b.idle) (Some m)) k.2))

pub book_full : (b : Book) (t : Ticket) (o : Option ℕ) → lendable b.fresh_from t.key b.idle ≡ None → nat_lt (pool_count b t.key) (pool_size b.limits t.key) ≡ true → nat_lt (link_count b) b.limits.max_links ≡ false → o ≡ number_of (find (λ link. true) b.idle) → Chooses b t (eviction_of o)
book_full b t o n p s e = eviction b t (λ link. true) o (unheld b t true false p s n) e

pub pool_full : (b : Book) (t : Ticket) (o : Option ℕ) → lendable b.fresh_from t.key b.idle ≡ None → nat_lt (pool_count b t.key) (pool_size b.limits t.key) ≡ false → o ≡ number_of (find (in_pool t.key) b.idle) → Chooses b t (eviction_of o)
pool_full b t o n p e = eviction b t (in_pool t.key) o (unheld b t false (nat_lt (link_count b) b.limits.max_links) p refl n) e
