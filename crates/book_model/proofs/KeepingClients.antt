-- Clients and tickets stay in order, whichever comes or goes.
use Rattle.std.proofs.Common.{◌≡◌, ℕ, suc, ◌≤◌, ◌<◌, Bool, true, false, cond, not, List, [], ◌∷◌, ◌++◌, length, count_by, refl, sym, ◌∙◌, subst, arith, le_trans, le_of_eq, ◌==◌, eqb-true}
use Rattle.std.proofs.lemmas.List.{length-map, length_push}
use Rattle.book_model.specs.Book.{Client, Ticket, is_client, is_of, without_client, without_ticket}
use Rattle.book_model.specs.Outcomes.{in_state}
use Rattle.book_model.specs.declared.events.ClientState.{ClientState}
use Rattle.book_model.specs.declared.limits.TheConstants.{MAX_PRESENT}
use Rattle.book_model.specs.Kept.{KeptClients}
use Rattle.book_model.proofs.KeepingLists.{as_long, longer, fewer_left, left_out, length_left, numbers_stay, one_more}

pub client_comes : (cs : List Client) (ts : List Ticket) (next : ℕ) (c : Client) → c.number ≡ next → length cs < MAX_PRESENT → KeptClients cs ts next → KeptClients (cs ++ c ∷ []) ts (suc next)
client_comes cs ts next c e room h = record {
  fit = omega (arith, length_push cs c, room);
  once = λ n. once n (c.number == n) refl;
  fresh = λ n l. fresh n l (c.number == n) refl;
  of_clients = λ n. omega (arith, one_more (is_client n) cs c (c.number == n) refl, h.of_clients n);
}
  where
    once : (n : ℕ) (b : Bool) → (c.number == n) ≡ b → count_by (is_client n) (cs ++ c ∷ []) ≤ 1
    once n true f = omega (arith, one_more (is_client n) cs c true f, h.fresh n (le_of_eq (sym e ∙ eqb-true c.number n f)))
    once n false f = omega (arith, one_more (is_client n) cs c false f, h.once n)

    fresh : (n : ℕ) → suc next ≤ n → (b : Bool) → (c.number == n) ≡ b → count_by (is_client n) (cs ++ c ∷ []) ≡ 0
    fresh n l true f = omega (arith, l, e, eqb-true c.number n f)
    fresh n l false f = omega (arith, one_more (is_client n) cs c false f, h.fresh n (omega (arith, l)))

pub state_changes : (state : ClientState) (k : ℕ) (cs : List Client) (ts : List Ticket) (next : ℕ) → KeptClients cs ts next → KeptClients (in_state state k cs) ts next
state_changes state k cs ts next h = record {
  fit = omega (arith, length-map cs (λ c. cond (is_client k c) (record c { state = state }) c), h.fit);
  once = λ n. omega (arith, same n, h.once n);
  fresh = λ n l. same n ∙ h.fresh n l;
  of_clients = λ n. omega (arith, same n, h.of_clients n);
}
  where
    stays : (c : Client) (b : Bool) → (cond b (record c { state = state }) c).number ≡ c.number
    stays c true = refl
    stays c false = refl

    same : (n : ℕ) → count_by (is_client n) (in_state state k cs) ≡ count_by (is_client n) cs
    same n = numbers_stay (λ (c : Client). c.number) (λ c. cond (is_client k c) (record c { state = state }) c) (λ c. stays c (is_client k c)) n cs

pub ticket_goes : (k : ℕ) (cs : List Client) (ts : List Ticket) (next : ℕ) → KeptClients cs ts next → KeptClients cs (without_ticket k ts) next
ticket_goes k cs ts next h = record {
  fit = h.fit;
  once = h.once;
  fresh = h.fresh;
  of_clients = λ n. le_trans (fewer_left (is_of n) _ ts) (h.of_clients n);
}

pub ticket_comes : (cs : List Client) (ts : List Ticket) (next : ℕ) (t : Ticket) → 1 ≤ count_by (is_client t.client) cs → count_by (is_of t.client) ts ≡ 0 → KeptClients cs ts next → KeptClients cs (ts ++ t ∷ []) next
ticket_comes cs ts next t there free h = record {
  fit = h.fit;
  once = h.once;
  fresh = h.fresh;
  of_clients = λ n. of_clients n (t.client == n) refl;
}
  where
    at : (n : ℕ) → t.client ≡ n → (1 ≤ count_by (is_client n) cs) × (count_by (is_of n) ts ≡ 0)
    at n e = subst (λ (m : ℕ). (1 ≤ count_by (is_client m) cs) × (count_by (is_of m) ts ≡ 0)) e (there, free)

    of_clients : (n : ℕ) (b : Bool) → (t.client == n) ≡ b → count_by (is_of n) (ts ++ t ∷ []) ≤ count_by (is_client n) cs
    of_clients n true f = let k = at n (eqb-true t.client n f) in omega (arith, one_more (is_of n) ts t true f, k.0, k.1)
    of_clients n false f = omega (arith, one_more (is_of n) ts t false f, h.of_clients n)

pub client_goes : (k : ℕ) (cs : List Client) (ts : List Ticket) (next : ℕ) → KeptClients cs ts next → KeptClients (without_client k cs) (without_ticket k ts) next
client_goes k cs ts next h = record {
  fit = omega (arith, length_left (is_client k) cs, h.fit);
  once = λ n. le_trans (fewer_left (is_client n) _ cs) (h.once n);
  fresh = λ n l. omega (arith, fewer_left (is_client n) (λ c. not (is_client k c)) cs, h.fresh n l);
  of_clients = λ n. of_clients n (k == n) refl;
}
  where
    of_clients : (n : ℕ) (b : Bool) → (k == n) ≡ b → count_by (is_of n) (without_ticket k ts) ≤ count_by (is_client n) (without_client k cs)
    of_clients n true f = omega (arith, left_out (λ (t : Ticket). t.client) k n ts true f)
    of_clients n false f = omega (arith, left_out (λ (t : Ticket). t.client) k n ts false f, left_out (λ (c : Client). c.number) k n cs false f, h.of_clients n)

-- each ticket is its client's only one: there are no more of them than clients
pub tickets_are_clients : (cs : List Client) (ts : List Ticket) (next : ℕ) → KeptClients cs ts next → length ts ≤ length cs
tickets_are_clients cs ts next h = as_long (λ (t : Ticket). t.client) (λ (c : Client). c.number) ts cs h.of_clients

-- and fewer, where a client has none
pub tickets_fit : (k : ℕ) (cs : List Client) (ts : List Ticket) (next : ℕ) → count_by (is_of k) ts ≡ 0 → 1 ≤ count_by (is_client k) cs → KeptClients cs ts next → length ts < length cs
tickets_fit k cs ts next none there h = longer (λ (t : Ticket). t.client) (λ (c : Client). c.number) k ts cs h.of_clients none there
