-- A walk over those who may be woken.
use Rattle.std.specs.Prelude.{ℕ, List, Option, map}
use Rattle.std.specs.VecDeque.Iter.{deque_iter_rest}
use Rattle.book_model.specs.Book.{Ticket}
use Rattle.numbered_rows.specs.Numbered.{rows_in}
use Rattle.book_rows.specs.declared.firsts.Walk.{Walk}
use Rattle.book_rows.specs.declared.firsts.Walk.TheVariants.{Pools, Slots}

-- whose tickets are in these slots
abbrev pub clients_in : List (Option Ticket) → List ℕ
clients_in slots = map (λ t. t.client) (rows_in slots)

-- those that are still to be told
abbrev pub left_of : Walk → List ℕ
left_of (Pools firsts) = firsts
left_of (Slots slots) = clients_in (deque_iter_rest slots)
