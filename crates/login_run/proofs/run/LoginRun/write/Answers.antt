use Rattle.std.proofs.Common.{ℕ, ◌<◌, List, drop, length, sym, ap, subst, ◌∙◌}
use Rattle.login_run.specs.Runs.{RunView, said_bytes}
use Rattle.login_run.proofs.Running.{wrote_some, wrote_last}
use Rattle.login_run.proofs.run.LoginRun.write.Goals as goal

pub invariant_of-self : goal.invariant_of-self
invariant_of-self g c = wrote_some _ _ _ _ _ c.self.inside.sent c.in-Count.count c.rest_of-unsent.result.now _ (c.rest_of-unsent.ensures ∙ ap (λ (l : List ℕ). drop c.self.inside.sent l) c.as_bytes.ensures) c.in-Count.ensures.within.1 (subst (λ (v : RunView). v.sent < length (said_bytes v.said)) (sym c.self.view_is) c.requires) c.in-Count.ensures.writes c.self.invariant

pub invariant_of-self-in-Ended : goal.invariant_of-self-in-Ended
invariant_of-self-in-Ended g c = wrote_last _ _ _ _ _ _ c.rest_of-unsent.result.now c.write_some.result c.in-Ended.is c.write_some.ensures.writes c.self.invariant
