-- Whom a decision may help: who has waited longest in its pool, or, where the book has no room, in each.
use Rattle.std.specs.Prelude.{ℕ, Bool, List, Option, Some, None, count_by, find, nat_lt, not}
use Rattle.book_model.specs.Book.{Book, Link, Ticket, in_pool, is_link, is_of, link_count}
use Rattle.session_values.specs.State.{StartKeyOf}
use Rattle.book_rows.specs.Waiting.{longest_waiting, longest_waiting_but}

abbrev pub behind_ticket : ℕ → List Ticket → Option Ticket → Option ℕ
behind_ticket client tickets None = None
behind_ticket client tickets (Some t) = longest_waiting_but client t.key tickets

-- in the pool for which this client waits, but for itself
abbrev pub waiting_behind : Book → ℕ → Option ℕ
waiting_behind b client = behind_ticket client b.tickets (find (is_of client) b.tickets)

abbrev pub for_link : List Ticket → Option Link → Option ℕ
for_link tickets None = None
for_link tickets (Some l) = longest_waiting l.key tickets

-- in the pool of this lent link
abbrev pub waiting_for : Book → ℕ → Option ℕ
waiting_for b link = for_link b.tickets (find (is_link link) b.lent)

-- no link more may be started, so any pool may wait for one that goes
abbrev pub is_full : Book → Bool
is_full b = not (nat_lt (link_count b) b.limits.max_links)

-- so many links of this pool are lent
abbrev pub lent_in_pool : Book → StartKeyOf → ℕ
lent_in_pool b pool = count_by (in_pool pool) b.lent
