use Rattle.std.proofs.Common.{sym, subst}
use Rattle.memory_ends.specs.declared.failing_end.Calls.{Calls}
use Rattle.memory_ends.specs.Failing.{failing_server}
use Rattle.memory_ends.specs.Servers.{ServerOf}
use Rattle.link_start.specs.Starts.{CanStartAll}
use Rattle.link_tests.proofs.making.failing_at.Goals as goal

pub returns : goal.returns
returns c = subst (λ (calls : Calls). CanStartAll (failing_server calls c.new.result.inner.standing)) (sym c.new.ensures.calls) (subst (λ (s : ServerOf). CanStartAll s.standing) (sym c.new.ensures.inner) c.in_ok-server.ensures)
