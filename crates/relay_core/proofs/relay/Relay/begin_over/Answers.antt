use Rattle.std.proofs.Common.{arith}
use Rattle.relay_model.proofs.Beginning.{lease_begun_at}
use Rattle.relay_core.proofs.relay.Relay.begin_over.Goals as goal

pub invariant_of-result : goal.invariant_of-result
invariant_of-result g c = (omega arith, (_, lease_begun_at c.args.link _ _ _ _ _ _ _ _ _ _ _ _ c.args.limit c.lend.ensures.stands c.lend.ensures.key c.lend.ensures.number c.lend.ensures.started_at c.lend.ensures.server_key c.lend.ensures.reports c.in-Ok.ensures c.lend.ensures.clean c.requires.low c.requires.high c.new.ensures c.new-2.ensures c.new-3.ensures))

pub returns-clause-begun : goal.returns-clause-begun
returns-clause-begun g c = lease_begun_at c.args.link _ _ _ _ _ _ _ _ _ _ _ _ c.args.limit c.lend.ensures.stands c.lend.ensures.key c.lend.ensures.number c.lend.ensures.started_at c.lend.ensures.server_key c.lend.ensures.reports c.in-Ok.ensures c.lend.ensures.clean c.requires.low c.requires.high c.new.ensures c.new-2.ensures c.new-3.ensures
