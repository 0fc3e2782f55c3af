use Rattle.std.proofs.Common.{◌≡◌, ◌++◌, length}
use Rattle.act_client.specs.Acts.{all_send}
use Rattle.act_client.proofs.script.scripts.Given as goal

abbrev pub invariant-loop-left : goal.invariant-loop-left
invariant-loop-left l = all_send 1 l.acts ≡ l.all.items ++ all_send l.number l.left

abbrev pub decreases-loop-left : goal.decreases-loop-left
decreases-loop-left l = length l.left
