use Rattle.memory_lease.proofs.alone.pump_to_end.Goals as goal

pub returns-in-Refuse-clause-ending : goal.returns-in-Refuse-clause-ending
returns-in-Refuse-clause-ending g c = λ p x. c.pump.ensures.refused p c.in-Refuse.refusal (c.loop.invariant.0 p x) c.in-Refuse.is

pub returns-in-ClientDone-clause-ending : goal.returns-in-ClientDone-clause-ending
returns-in-ClientDone-clause-ending g c = ((c.pump.ensures.holds_all c.loop.invariant.1).0, λ p x. c.pump.ensures.done p (c.loop.invariant.0 p x) c.loop.invariant.1 c.in-ClientDone.is)
