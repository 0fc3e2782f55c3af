use Rattle.std.proofs.Common.{◌≡◌}
use Rattle.relay_core.specs.Leases.{Keeps}
use Rattle.relay_core.specs.declared.Phase.TheVariants.{Running}
use Rattle.memory_lease.proofs.alone.pump_to_end.Given as goal

abbrev pub invariant-loop : goal.invariant-loop
invariant-loop g l = Keeps l.initial.relay l.relay × (l.relay.phase ≡ Running)
