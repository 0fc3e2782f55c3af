-- Tickets, links and clients, in slots of which some are empty.
use Rattle.std.proofs.Common.{get_or, ◌≡◌, ℕ, suc, ◌+◌, ◌<◌, Bool, true, false, List, [], ◌∷◌, ◌++◌, length, take, Option, None, Some, cond, refl, sym, ap, ◌∙◌, arith, map, append-nil}
use Rattle.std.specs.Prelude.{position, find, not, count_by, is_some, ◌==◌, ◌||◌, ◌&&◌}
use Rattle.std.specs.List.{list_any, prefix_len, take_while}
use Rattle.std.proofs.lemmas.Bool.{eqb-true}
use Rattle.session_values.specs.State.{StartKeyOf}
use Rattle.start_keys.specs.Keys.{same_key}
use Rattle.book_model.specs.Book.{Client, Link, Ticket, find_last, is_of, latest_of, or_else, same_pool, waiting_before}
use Rattle.book_model.specs.Outcomes.{in_state}
use Rattle.book_model.specs.declared.events.ClientState.{ClientState}
use Rattle.numbered_rows.specs.Numbered.{bears, rows_in}
use Rattle.numbered_rows.specs.Places.{passes}
use Rattle.numbered_rows.proofs.Numbering.{first_slot, found_slot, nobody, one_walked}
use Rattle.numbered_rows.proofs.Places.{count-cons, none_counted, none_here, place_in}
use Rattle.book_rows.specs.Numbered.{client_in, last_with, number_in, number_of}
use Rattle.book_rows.specs.Waiting.{client_of, longest_waiting, longest_waiting_but}

-- ---- a walk up to a place

while-false : {A : Type 0} (p : A → Bool) (x : A) (xs : List A) → p x ≡ false → take_while p (x ∷ xs) ≡ []
while-false p x xs e = ap (λ b. take (cond b (1 + prefix_len p xs) 0) (x ∷ xs)) e

while-true : {A : Type 0} (p : A → Bool) (x : A) (xs : List A) → p x ≡ true → take_while p (x ∷ xs) ≡ x ∷ take_while p xs
while-true p x xs e = ap (λ b. take (cond b (1 + prefix_len p xs) 0) (x ∷ xs)) e ∙ ap (λ n. take n (x ∷ xs)) (one_and (prefix_len p xs))
  where
    one_and : (n : ℕ) → 1 + n ≡ suc n
    one_and n = omega (arith)

-- ---- what a walk finds

pub found_number : (p : Link → Bool) (slots : List (Option Link)) → number_in (find (λ s. passes p s) slots) ≡ number_of (find p (rows_in slots))
found_number p slots = ap number_of (found_slot p slots)

pub first_number : (slots : List (Option Link)) → number_in (find is_some slots) ≡ number_of (find (λ x. true) (rows_in slots))
first_number slots = ap number_of (first_slot slots)

pub found_client : (pool : StartKeyOf) (slots : List (Option Ticket)) → client_in (find (λ s. passes (λ t. same_pool t.key pool) s) slots) ≡ longest_waiting pool (rows_in slots)
found_client pool slots = ap client_of (found_slot (λ t. same_pool t.key pool) slots)

pub found_other : (client : ℕ) (pool : StartKeyOf) (slots : List (Option Ticket)) → client_in (find (λ s. passes (λ t. same_pool t.key pool) s && not (passes (is_of client) s)) slots) ≡ longest_waiting_but client pool (rows_in slots)
found_other client pool [] = refl
found_other client pool (None ∷ slots) = found_other client pool slots
found_other client pool (Some t ∷ slots) = of (same_pool t.key pool && not (is_of client t)) (found_other client pool slots)
  where
    of : (b : Bool) → client_in (find (λ s. passes (λ u. same_pool u.key pool) s && not (passes (is_of client) s)) slots) ≡ longest_waiting_but client pool (rows_in slots)
        → client_in (cond b (Some (Some t)) (find (λ s. passes (λ u. same_pool u.key pool) s && not (passes (is_of client) s)) slots)) ≡ client_of (cond b (Some t) (find (λ u. same_pool u.key pool && not (is_of client u)) (rows_in slots)))
    of true h = refl
    of false h = h

abbrev front : ℕ → List (Option Ticket) → List (Option Ticket)
front client slots = take_while (λ s. not (passes (is_of client) s)) slots

walked_step : (pool : StartKeyOf) (client : ℕ) (t : Ticket) (slots : List (Option Ticket)) (b : Bool) → is_of client t ≡ b → count_by (λ s. passes (λ u. same_pool u.key pool) s) (front client slots) ≡ waiting_before pool client (rows_in slots)
    → count_by (λ s. passes (λ u. same_pool u.key pool) s) (front client (Some t ∷ slots)) ≡ cond b 0 (cond {A = ℕ} (same_pool t.key pool) 1 0 + waiting_before pool client (rows_in slots))
walked_step pool client t slots true e h = ap (λ (xs : List (Option Ticket)). count_by (λ s. passes (λ u. same_pool u.key pool) s) xs) (while-false (λ s. not (passes (is_of client) s)) (Some t) slots (ap not e))
walked_step pool client t slots false e h =
    ap (λ (xs : List (Option Ticket)). count_by (λ s. passes (λ u. same_pool u.key pool) s) xs) (while-true (λ s. not (passes (is_of client) s)) (Some t) slots (ap not e))
    ∙ (count-cons (λ s. passes (λ u. same_pool u.key pool) s) (Some t) (front client slots) ∙ ap (λ n. cond {A = ℕ} (same_pool t.key pool) 1 0 + n) h)

pub walked_before : (pool : StartKeyOf) (client : ℕ) (slots : List (Option Ticket)) → count_by (λ s. passes (λ t. same_pool t.key pool) s) (take_while (λ s. not (passes (is_of client) s)) slots) ≡ waiting_before pool client (rows_in slots)
walked_before pool client [] = refl
walked_before pool client (None ∷ slots) =
    ap (λ (xs : List (Option Ticket)). count_by (λ s. passes (λ u. same_pool u.key pool) s) xs) (while-true (λ s. not (passes (is_of client) s)) None slots refl)
    ∙ omega (arith, count-cons (λ s. passes (λ u. same_pool u.key pool) s) None (front client slots), walked_before pool client slots)
walked_before pool client (Some t ∷ slots) = walked_step pool client t slots (is_of client t) refl (walked_before pool client slots)

-- ---- a client's state

put_step : (s : ClientState) (n : ℕ) (c : Client) (b : Bool) → (c.number == n) ≡ b → cond b (record { number = n; state = s }) c ≡ cond b (record c { state = s }) c
put_step s n c true e = ap (λ (m : ℕ). record { number = m; state = s }) (sym (eqb-true c.number n e))
put_step s n c false e = refl

pub state_put : (s : ClientState) (n : ℕ) (cs : List Client) → map (λ r. cond (bears (λ c. c.number) n r) (record { number = n; state = s }) r) cs ≡ in_state s n cs
state_put s n [] = refl
state_put s n (c ∷ cs) = ap (λ (x : Client). x ∷ map (λ r. cond (bears (λ d. d.number) n r) (record { number = n; state = s }) r) cs) (put_step s n c (c.number == n) refl) ∙ ap (λ (xs : List Client). cond (c.number == n) (record c { state = s }) c ∷ xs) (state_put s n cs)

pub before_place : (pool : StartKeyOf) (client place : ℕ) (slots : List (Option Ticket)) → position (λ s. passes (is_of client) s) slots ≡ Some place → count_by (λ s. passes (λ t. same_pool t.key pool) s) (take place slots) ≡ waiting_before pool client (rows_in slots)
before_place pool client place slots e =
    let at = place_in _ _ place _ refl e in
    ap (λ (n : ℕ). count_by (λ s. passes (λ t. same_pool t.key pool) s) (take n slots)) at.0 ∙ walked_before pool client slots

-- a client that waits is found
pub waits_there : (client : ℕ) (slots : List (Option Ticket)) → list_any (is_of client) (rows_in slots) ≡ true → position (λ s. passes (is_of client) s) slots ≡ None → ⊥
waits_there client slots there none = lacks (rows_in slots) (nobody (is_of client) slots (none_counted (λ s. passes (is_of client) s) slots none)) there
  where
    lacks : (ts : List Ticket) → count_by (is_of client) ts ≡ 0 → list_any (is_of client) ts ≡ true → ⊥
    lacks [] h e = absurd (cc)
    lacks (t ∷ ts) h e = let at = none_here (is_of client) t ts (is_of client t) refl h in lacks ts at.1 (sym (ap (λ (b : Bool). b || list_any (is_of client) ts) at.0) ∙ e)

-- ---- the last that passes

or_else_none : {A : Type 0} (o : Option A) → or_else None o ≡ or_else o None
or_else_none None = refl
or_else_none (Some y) = refl

or_else_assoc : {A : Type 0} (o p q : Option A) → or_else (or_else o p) q ≡ or_else o (or_else p q)
or_else_assoc None p q = refl
or_else_assoc (Some z) p q = refl

pub last_of_one_more : {A : Type 0} (p : A → Bool) (xs : List A) (x : A) → find_last p (xs ++ x ∷ []) ≡ or_else (cond (p x) (Some x) None) (find_last p xs)
last_of_one_more p [] x = or_else_none (cond (p x) (Some x) None)
last_of_one_more p (y ∷ xs) x = ap (λ o. or_else o (cond (p y) (Some y) None)) (last_of_one_more p xs x) ∙ or_else_assoc (cond (p x) (Some x) None) (find_last p xs) (cond (p y) (Some y) None)

-- ---- the last link of a key

number_step : (l : Link) (b : Bool) (o : Option Link) → number_of (or_else (cond b (Some l) None) o) ≡ cond b (Some l.number) (number_of o)
number_step l true o = refl
number_step l false o = refl

last_one : (key : StartKeyOf) (slot : Option Link) (links : List Link) → number_of (latest_of key (links ++ rows_in (slot ∷ []))) ≡ last_with key slot (number_of (latest_of key links))
last_one key None links = ap (λ (ls : List Link). number_of (latest_of key ls)) (append-nil links)
last_one key (Some l) links = ap number_of (last_of_one_more (λ k. same_key k.key key) links l) ∙ number_step l (same_key l.key key) (latest_of key links)

pub last_walked : (key : StartKeyOf) (slots : List (Option Link)) (place : ℕ) (slot : Option Link) → slot ≡ get_or slots place slot → place < length slots → last_with key slot (number_of (latest_of key (rows_in (take place slots)))) ≡ number_of (latest_of key (rows_in (take (place + 1) slots)))
last_walked key slots place slot e within = sym (ap (λ (ls : List Link). number_of (latest_of key ls)) (one_walked slots place slot e within) ∙ last_one key slot (rows_in (take place slots)))
