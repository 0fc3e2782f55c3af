use Rattle.std.proofs.Common.{◌≡◌, vec_len}
use Rattle.desk_tallies.specs.Shares.{of_each, sum_of, sum_over}
use Rattle.desk_tallies.proofs.passes.Shares.merge_all.Given as goal

abbrev pub invariant-loop-pass : goal.invariant-loop-pass
invariant-loop-pass g l =
    (sum_of l.self.parts (of_each (vec_len l.passes)) ≡ sum_of l.initial.self.parts (of_each (vec_len l.initial.passes)))
    × (sum_of l.self.amounts (sum_over l.passes.items) ≡ sum_of l.initial.self.amounts (sum_over l.initial.passes.items))

abbrev pub decreases-loop-pass : goal.decreases-loop-pass
decreases-loop-pass g l = goal.left-loop-pass g l
