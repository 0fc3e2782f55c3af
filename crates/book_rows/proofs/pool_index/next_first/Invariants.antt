use Rattle.std.proofs.Common.{◌≡◌}
use Rattle.book_rows.specs.PoolIndex.{firsts_in}
use Rattle.book_rows.proofs.pool_index.next_first.Given as goal

abbrev pub invariant-loop-hash : goal.invariant-loop-hash
invariant-loop-hash l =
    (goal.iterator-loop-hash).can_next l.groups × (goal.iterator-loop-hash).is_finite l.groups
    × (firsts_in l.initial.groups ≡ firsts_in l.groups)
