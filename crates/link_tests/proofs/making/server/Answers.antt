use Rattle.std.proofs.Common.{sym, subst, true}
use Rattle.std.specs.Arc.{arc_value}
use Rattle.memory_ends.specs.Servers.{ServerOf}
use Rattle.link_start.specs.Starts.{CanStartAll}
use Rattle.link_tests.proofs.making.server.Goals as goal

-- src/making.rt:86:1
pub returns-in-Ok : goal.returns-in-Ok
returns-in-Ok c = subst (λ (s : ServerOf). CanStartAll s.standing) (sym c.in-Ok.ensures) (c.memory_servers_can_start.ensures (record { catalogue = arc_value c.in_ok-catalogue.catalogue; pid = 7; secret = 8; strikable = true }) c.args.auth c.args.cut c.args.dies_after c.in_ok-catalogue.ensures c.requires.salt)
