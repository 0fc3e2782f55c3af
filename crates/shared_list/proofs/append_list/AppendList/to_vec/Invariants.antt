use Rattle.std.proofs.Common.{◌≡◌, ◌++◌, ◌-◌, length, drop, map}
use Rattle.std.specs.Arc.{arc_value}
use Rattle.shared_list.specs.Lists.{all_of}
use Rattle.shared_list.proofs.append_list.AppendList.to_vec.Given as goal

abbrev pub invariant-loop-index : goal.invariant-loop-index
invariant-loop-index g l = map arc_value l.items.items ++ all_of (drop l.index l.self-inside.full) ≡ all_of l.self-inside.full

abbrev pub decreases-loop-index : goal.decreases-loop-index
decreases-loop-index g l = length l.self-inside.full - l.index
