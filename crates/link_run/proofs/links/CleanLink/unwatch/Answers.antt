use Rattle.std.proofs.Common.{sym, subst}
use Rattle.std.specs.Arc.{arc_value}
use Rattle.server_end.specs.Standing.{Standing}
use Rattle.link_run.specs.Receipts.{IsClean}
use Rattle.link_run.proofs.links.CleanLink.unwatch.Goals as goal

pub invariant_of-self : goal.invariant_of-self
invariant_of-self g c = subst (λ (s : Standing). IsClean s (arc_value c.self.inside.link.key) c.self.inside.link.server_key c.self.inside.link.reported) (sym c.unwatch.ensures.stands) c.self.invariant
