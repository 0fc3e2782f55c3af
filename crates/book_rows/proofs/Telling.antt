-- Who is told first.
use Rattle.std.proofs.Common.{◌≡◌, ◌==◌, ℕ, Bool, true, false, ◌&&◌, ◌||◌, List, [], ◌∷◌, Option, None, Some, cond, refl, sym, ap, ◌∙◌, map, eq-eqb, eqb-true}
use Rattle.std.specs.Prelude.{IfSome, bytes_eq, find, nat_eq, slice_get}
use Rattle.std.specs.List.{AllByRecursion, IsDistinct, cons_option, list_any}
use Rattle.std.specs.Map.{keys_of, lookup}
use Rattle.std.proofs.lemmas.Slice.Eq.{bytes_eq-Decides}
use Rattle.std.proofs.lemmas.Bool.{true≢false}
use Rattle.session_values.specs.State.{StartKeyOf}
use Rattle.book_model.specs.Book.{Ticket, is_number, is_of, same_pool}
use Rattle.book_rows.specs.Telling.{clients_in}
use Rattle.numbered_rows.specs.Numbered.{rows_in}
use Rattle.book_rows.specs.PoolHashes.{pool_hash_of}
use Rattle.book_rows.specs.PoolIndex.{Group, Groups, ListsIfAny, first_of, firsts_in, in_group, listed}
use Rattle.book_rows.specs.Waiting.{TellsFirsts, TellsWaiting, client_of, longest_waiting}
use Rattle.book_rows.proofs.PoolHashes.{unlike}
use Rattle.book_rows.proofs.Pooling.{longest}

-- ---- lists of clients

pub any_client : (n : ℕ) (tickets : List Ticket) → list_any (is_number n) (map (λ t. t.client) tickets) ≡ list_any (is_of n) tickets
any_client n [] = refl
any_client n (t ∷ ts) = ap (λ (b : Bool). is_of n t || b) (any_client n ts)

here : (x y : Bool) → x ≡ true → (x || y) ≡ true
here true y e = refl
here false y e = absurd (cc)

there : (x y : Bool) → y ≡ true → (x || y) ≡ true
there true y e = refl
there false y e = e

-- who has waited longest in a pool waits
found_waits : (n : ℕ) (p : Ticket → Bool) (ts : List Ticket) → client_of (find p ts) ≡ Some n → list_any (is_of n) ts ≡ true
found_waits n p [] e = absurd (cc)
found_waits n p (t ∷ ts) e = of (p t) e (found_waits n p ts)
  where
    of : (b : Bool) → client_of (cond b (Some t) (find p ts)) ≡ Some n → (client_of (find p ts) ≡ Some n → list_any (is_of n) ts ≡ true) → (is_of n t || list_any (is_of n) ts) ≡ true
    of true q h = here (is_of n t) (list_any (is_of n) ts) (eq-eqb t.client n (cc))
    of false q h = there (is_of n t) (list_any (is_of n) ts) (h q)

-- ---- pools and their numbers

same_hash : (a b : StartKeyOf) → same_pool a b ≡ true → pool_hash_of a ≡ pool_hash_of b
same_hash a b e = of (pool_hash_of a == pool_hash_of b) refl
  where
    of : (h : Bool) → (pool_hash_of a == pool_hash_of b) ≡ h → pool_hash_of a ≡ pool_hash_of b
    of true f = eqb-true (pool_hash_of a) (pool_hash_of b) f
    of false f = absurd (true≢false (sym (unlike a b f ∙ e)))

both : (x y : Bool) → x ≡ true → y ≡ true → (x && y) ≡ true
both true true e f = refl
both true false e f = f
both false y e f = e

same_as_itself : (a : StartKeyOf) → same_pool a a ≡ true
same_as_itself a = both (bytes_eq a.row a.row) (bytes_eq a.user a.user) ((bytes_eq-Decides a.row a.row).1 refl) ((bytes_eq-Decides a.user a.user).1 refl)

-- ---- by an index

-- the group of a pool that has a row
found_group : (pool : StartKeyOf) (n : ℕ) (o : Option Group) → slice_get (in_group pool o) 0 ≡ Some n → (group : Group) × (o ≡ Some group) × (same_pool group.pool pool ≡ true) × (slice_get group.numbers 0 ≡ Some n)
found_group pool n None e = absurd (cc)
found_group pool n (Some group) e = of (same_pool group.pool pool) refl e
  where
    of : (b : Bool) → same_pool group.pool pool ≡ b → slice_get (cond b group.numbers []) 0 ≡ Some n → (g : Group) × (Some group ≡ Some g) × (same_pool g.pool pool ≡ true) × (slice_get g.numbers 0 ≡ Some n)
    of true f q = (group, refl, f, q)
    of false f q = absurd (cc)

first_here : (e : ℕ × Group) (n : ℕ) → e.0 ≡ pool_hash_of e.1.pool → slice_get e.1.numbers 0 ≡ Some n → first_of e ≡ Some n
first_here e n home first = ap (λ (b : Bool). cond b (slice_get e.1.numbers 0) None) (eq-eqb e.0 (pool_hash_of e.1.pool) home) ∙ first

told_here : (n : ℕ) (o : Option ℕ) (ns : List ℕ) → o ≡ Some n → list_any (is_number n) (cons_option o ns) ≡ true
told_here n None ns e = absurd (cc)
told_here n (Some m) ns e = here (is_number n m) (list_any (is_number n) ns) (eq-eqb m n (cc))

told_there : (n : ℕ) (o : Option ℕ) (ns : List ℕ) → list_any (is_number n) ns ≡ true → list_any (is_number n) (cons_option o ns) ≡ true
told_there n None ns e = e
told_there n (Some m) ns e = there (is_number n m) (list_any (is_number n) ns) e

-- the first row of a group that a look-up finds is told
among : (groups : Groups) (hash : ℕ) (group : Group) (n : ℕ) → lookup (nat_eq hash) groups ≡ Some group → hash ≡ pool_hash_of group.pool → slice_get group.numbers 0 ≡ Some n → list_any (is_number n) (firsts_in groups) ≡ true
among [] hash group n found home first = absurd (cc)
among (g ∷ gs) hash group n found home first = of (nat_eq hash g.0) refl found (λ f. among gs hash group n f home first)
  where
    of : (b : Bool) → nat_eq hash g.0 ≡ b → cond b (Some g.1) (lookup (nat_eq hash) gs) ≡ Some group → (lookup (nat_eq hash) gs ≡ Some group → list_any (is_number n) (firsts_in gs) ≡ true) → list_any (is_number n) (cons_option (first_of g) (firsts_in gs)) ≡ true
    of true k q h =
        let same : group ≡ g.1 = cc in
        let under : g.0 ≡ pool_hash_of g.1.pool = sym (eqb-true hash g.0 k) ∙ (home ∙ ap (λ (x : Group). pool_hash_of x.pool) same) in
        told_here n (first_of g) (firsts_in gs) (first_here g n under (sym (ap (λ (x : Group). slice_get x.numbers 0) same) ∙ first))
    of false k q h = told_there n (first_of g) (firsts_in gs) (h q)

first_told : (groups : Groups) (pool : StartKeyOf) (n : ℕ) → slice_get (listed groups pool) 0 ≡ Some n → list_any (is_number n) (firsts_in groups) ≡ true
first_told groups pool n e =
    let at = found_group pool n (lookup (nat_eq (pool_hash_of pool)) groups) e in
    among groups (pool_hash_of pool) at.0 n at.1 (sym (same_hash at.0.pool pool at.2)) at.3

-- ---- who is told is the first of a pool

-- a group that its own pool's look-up finds, with this first row
abbrev Heads : Groups → ℕ → Type 0
Heads groups n = (group : Group) × (lookup (nat_eq (pool_hash_of group.pool)) groups ≡ Some group) × (slice_get group.numbers 0 ≡ Some n)

none_behind : (hash : ℕ) (gs : Groups) → AllByRecursion (λ k. nat_eq hash k ≡ false) (keys_of gs) → lookup (nat_eq hash) gs ≡ None
none_behind hash [] others = refl
none_behind hash (g ∷ gs) others = ap (λ (b : Bool). cond b (Some g.1) (lookup (nat_eq hash) gs)) others.0 ∙ none_behind hash gs others.1

still_found : (g : ℕ × Group) (gs : Groups) (hash : ℕ) (group : Group) → AllByRecursion (λ k. nat_eq g.0 k ≡ false) (keys_of gs) → lookup (nat_eq hash) gs ≡ Some group → lookup (nat_eq hash) (g ∷ gs) ≡ Some group
still_found g gs hash group others found = of (nat_eq hash g.0) refl
  where
    of : (b : Bool) → nat_eq hash g.0 ≡ b → cond b (Some g.1) (lookup (nat_eq hash) gs) ≡ Some group
    of true k =
        let none : lookup (nat_eq hash) gs ≡ None = ap (λ (h : ℕ). lookup (nat_eq h) gs) (eqb-true hash g.0 k) ∙ none_behind g.0 gs others in
        absurd (cc)
    of false k = found

heads_there : (g : ℕ × Group) (gs : Groups) (n : ℕ) → AllByRecursion (λ k. nat_eq g.0 k ≡ false) (keys_of gs) → Heads gs n → Heads (g ∷ gs) n
heads_there g gs n others h = (h.0, still_found g gs (pool_hash_of h.0.pool) h.0 others h.1, h.2)

heads_here : (g : ℕ × Group) (gs : Groups) (n : ℕ) → first_of g ≡ Some n → Heads (g ∷ gs) n
heads_here g gs n e = of (g.0 == pool_hash_of g.1.pool) refl e
  where
    of : (b : Bool) → (g.0 == pool_hash_of g.1.pool) ≡ b → cond b (slice_get g.1.numbers 0) None ≡ Some n → Heads (g ∷ gs) n
    of true k q =
        let found = eq-eqb (pool_hash_of g.1.pool) g.0 (sym (eqb-true g.0 (pool_hash_of g.1.pool) k)) in
        (g.1, ap (λ (b : Bool). cond b (Some g.1) (lookup (nat_eq (pool_hash_of g.1.pool)) gs)) found, q)
    of false k q = absurd (cc)

heads_of : (groups : Groups) (n : ℕ) → IsDistinct nat_eq (keys_of groups) → list_any (is_number n) (firsts_in groups) ≡ true → Heads groups n
unfolding IsDistinct
heads_of [] n once e = absurd (cc)
heads_of (g ∷ gs) n once e = of (first_of g) refl e (λ q. heads_there g gs n once.0 (heads_of gs n once.1 q))
  where
    or : (m : ℕ) (b : Bool) → first_of g ≡ Some m → is_number n m ≡ b → (b || list_any (is_number n) (firsts_in gs)) ≡ true → (list_any (is_number n) (firsts_in gs) ≡ true → Heads (g ∷ gs) n) → Heads (g ∷ gs) n
    or m true f k q h = heads_here g gs n (f ∙ ap Some (eqb-true m n k))
    or m false f k q h = h q

    of : (o : Option ℕ) → first_of g ≡ o → list_any (is_number n) (cons_option o (firsts_in gs)) ≡ true → (list_any (is_number n) (firsts_in gs) ≡ true → Heads (g ∷ gs) n) → Heads (g ∷ gs) n
    of None f q h = h q
    of (Some m) f q h = or m (is_number n m) f refl q h

told_of : (groups : Groups) (n : ℕ) → IsDistinct nat_eq (keys_of groups) → list_any (is_number n) (firsts_in groups) ≡ true → (pool : StartKeyOf) × (slice_get (listed groups pool) 0 ≡ Some n)
told_of groups n once e =
    let at = heads_of groups n once e in
    let listed_there : listed groups at.0.pool ≡ at.0.numbers = ap (in_group at.0.pool) at.1 ∙ ap (λ (b : Bool). cond b at.0.numbers []) (same_as_itself at.0.pool) in
    (at.0.pool, ap (λ (ns : List ℕ). slice_get ns 0) listed_there ∙ at.2)

-- ---- the tickets

pub pools_first : (o : Option Groups) (groups : Groups) (tickets : List Ticket) → o ≡ Some groups → ListsIfAny (λ (t : Ticket). t.client) (λ t. t.key) o tickets → TellsFirsts (firsts_in groups) tickets
pools_first o groups tickets e l pool = of (longest_waiting pool tickets) refl
  where
    of : (r : Option ℕ) → longest_waiting pool tickets ≡ r → IfSome r (λ n. list_any (is_number n) (firsts_in groups) ≡ true)
    of None f = _
    of (Some n) f = first_told groups pool n (longest o groups tickets pool e l ∙ f)

pub pools_waiting : (o : Option Groups) (groups : Groups) (tickets : List Ticket) → o ≡ Some groups → ListsIfAny (λ (t : Ticket). t.client) (λ t. t.key) o tickets → IsDistinct nat_eq (keys_of groups) → TellsWaiting (firsts_in groups) tickets
pools_waiting o groups tickets e l once n told =
    let at = told_of groups n once told in
    found_waits n (λ t. same_pool t.key at.0) tickets (sym (longest o groups tickets at.0 e l) ∙ at.1)

pub slots_first : (slots : List (Option Ticket)) → TellsFirsts (clients_in slots) (rows_in slots)
slots_first slots pool = of (longest_waiting pool (rows_in slots)) refl
  where
    of : (r : Option ℕ) → longest_waiting pool (rows_in slots) ≡ r → IfSome r (λ n. list_any (is_number n) (clients_in slots) ≡ true)
    of None f = _
    of (Some n) f = any_client n (rows_in slots) ∙ found_waits n (λ t. same_pool t.key pool) (rows_in slots) f

pub slots_waiting : (slots : List (Option Ticket)) → TellsWaiting (clients_in slots) (rows_in slots)
slots_waiting slots n told = sym (any_client n (rows_in slots)) ∙ told
