use Rattle.std.proofs.Common.{sym, subst, true, None}
use Rattle.std.specs.Arc.{arc_value}
use Rattle.memory_ends.specs.Servers.{ServerOf}
use Rattle.link_start.specs.Starts.{CanStartAll}
use Rattle.oom_probe.proofs.making.asking.Goals as goal

pub returns-clause-can_start : goal.returns-clause-can_start
returns-clause-can_start c = subst (λ (s : ServerOf). CanStartAll s.standing) (sym c.in_ok-server.ensures) (c.memory_servers_can_start.ensures (record { catalogue = arc_value c.in_ok-catalogue.catalogue; pid = 1; secret = 2; strikable = true }) c.args.auth 64 None c.in_ok-catalogue.ensures c.requires)
