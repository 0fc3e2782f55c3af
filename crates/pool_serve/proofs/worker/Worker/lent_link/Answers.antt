use Rattle.std.proofs.Common.{Some, sym, ap, ◌∙◌, subst}
use Rattle.std.specs.Arc.{arc_value}
use Rattle.start_keys.specs.SameKeys.{same_keys-one}
use Rattle.link_run.specs.Links.{LinkView}
use Rattle.link_desk.specs.Homes.{IsAtHome}
use Rattle.link_desk.specs.Passes.{granted_lease}
use Rattle.pool_serve.proofs.worker.Worker.lent_link.Goals as goal

pub returns-clause-linked : goal.returns-clause-linked
returns-clause-linked g c = record {
  at_home = subst (λ (x : LinkView). IsAtHome g.D.LinkDesk.home x) (sym c.watch.ensures.same) c.requires.home;
  key = ap (λ (x : LinkView). x.key) c.watch.ensures.same ∙ (same_keys-one c.args.link.key (arc_value c.args.logged_in.now.key)).0 (sym c.is_for.ensures ∙ c.if-not-is_for.false);
  lease = c.requires.own ∙ ap (λ (x : LinkView). Some (granted_lease x)) (sym c.watch.ensures.same);
}
