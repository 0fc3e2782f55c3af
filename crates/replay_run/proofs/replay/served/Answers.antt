use Rattle.std.proofs.Common.{rules, ◌≡◌, subst}
use Rattle.std.specs.Arc.{arc_value}
use Rattle.session_values.specs.Lawful.{IsLawfulCatalogue}
use Rattle.replay_run.proofs.Startable.{startable}
use Rattle.replay_run.proofs.replay.served.Goals as goal

pub serve_alone-requires-clause-startable : goal.serve_alone-requires-clause-startable
serve_alone-requires-clause-startable c =
    let lawful : c.deref.result.now ≡ arc_value c.in_ok-catalogue.catalogue = search rules in
    startable _ _ _ c.args.service.now.cut c.args.service.now.dies_after c.in_ok-server.server (subst IsLawfulCatalogue lawful c.is_lawful.ensures) c.in_ok-server.ensures
