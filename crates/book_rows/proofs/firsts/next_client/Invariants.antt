use Rattle.std.proofs.Common.{◌≡◌}
use Rattle.std.specs.VecDeque.Iter.{deque_iter_rest}
use Rattle.book_rows.specs.Telling.{clients_in}
use Rattle.book_rows.proofs.firsts.next_client.Given as goal

abbrev pub invariant-loop-slot : goal.invariant-loop-slot
invariant-loop-slot l =
    (goal.iterator-loop-slot).can_next l.slots × (goal.iterator-loop-slot).is_finite l.slots
    × (clients_in (deque_iter_rest l.initial.slots) ≡ clients_in (deque_iter_rest l.slots))
