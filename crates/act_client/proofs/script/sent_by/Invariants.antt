use Rattle.std.proofs.Common.{◌≡◌, ◌++◌, length}
use Rattle.act_client.specs.Acts.{sends}
use Rattle.act_client.proofs.script.sent_by.Given as goal

abbrev pub invariant-loop-left : goal.invariant-loop-left
invariant-loop-left l = sends l.client l.acts ≡ l.sent.items ++ sends l.client l.left

abbrev pub decreases-loop-left : goal.decreases-loop-left
decreases-loop-left l = length l.left
