use Rattle.std.proofs.Common.{◌≡◌, length}
use Rattle.pool_desk.specs.declared.bells.TheConstants.{BELLS}
use Rattle.pool_desk.proofs.Choosing.{ToChoose}
use Rattle.pool_desk.proofs.helping.bells_of.Given as goal

abbrev pub invariant-loop-client : goal.invariant-loop-client
invariant-loop-client l = (length l.chosen ≡ BELLS) × ToChoose l.fn.clients l.client-iterator l.chosen
