use Rattle.std.proofs.Common.{inl, inr, ap, ◌∙◌, subst}
use Rattle.link_model.specs.Standing.{ClientFacts}
use Rattle.login_core.specs.Logins.{LoginView}
use Rattle.pool_serve.specs.Stays.{IsAllowed, ServesAs}
use Rattle.pool_serve.specs.FinalMessages.{HasGiven, last_bytes}
use Rattle.pool_serve.specs.declared.final_message.FinalMessage.{FinalMessage}
use Rattle.pool_serve.proofs.Again.{traces_first}
use Rattle.pool_serve.proofs.Cancelling.{dismissed_is_over, dismissed_keeps, dismissed_settles}
use Rattle.pool_serve.proofs.Leases.{came_first}
use Rattle.pool_serve.proofs.Logging.{run_ends, still_lets_in}
use Rattle.pool_serve.proofs.Managing.{same_serves, stayed_first, told_as}
use Rattle.pool_serve.proofs.Telling.{untold_client}
use Rattle.pool_serve.proofs.serve.serve.Goals as goal

pub returns-in_default : goal.returns-in_default
returns-in_default g c =
    let turn = c.drive_login.result in
    let left = dismissed_keeps turn (g.D.LinkDesk.counted c.args.pass) (g.D.LinkDesk.counted c.dismiss.result.1) (g.D.LinkDesk.holder c.args.pass) (g.D.LinkDesk.holder c.dismiss.result.1) c.dismiss.ensures.pass in
    record {
      tells = ap (λ (x : ClientFacts). x.tells) c.dismiss.ensures.client ∙ (c.drive_login.ensures.login.tells ∙ ap (λ (x : ClientFacts). x.tells) c.new-run.ensures.client);
      allowed = λ t l. inl
          (subst (λ (v : LoginView). IsAllowed g.D.LinkDesk.home v (g.D.LinkDesk.counted c.args.pass) (g.D.LinkDesk.counted c.dismiss.result.1) (g.C.ClientEnd.facts c.dismiss.result.0)) c.new-run.ensures.login
          (untold_client g.D.LinkDesk.home c.new-run.result.login (g.C.ClientEnd.facts c.dismiss.result.0) (g.D.LinkDesk.counted c.args.pass) (g.D.LinkDesk.counted c.dismiss.result.1) (run_ends c.runs_are_allowed.ensures g.D.LinkDesk.home c.new-run.result c.drive_login.new.run (g.C.ClientEnd.facts c.dismiss.result.0) c.drive_login.ensures.login c.dismiss.ensures.run c.dismiss.ensures.client (ap (λ (x : ClientFacts). x.tells) c.new-run.ensures.client ∙ t))));
      share = dismissed_settles turn _ _ _ _ c.dismiss.ensures.pass;
      free = left.client ∙ c.requires.free;
      none = left.lease ∙ c.requires.none;
      over = dismissed_is_over c.cancelling_runs_have_asked.ensures c.args.login c.new-run.result c.drive_login.new.run turn _ _ _ _ _ c.new-run.ensures.login c.drive_login.ensures.login c.dismiss.ensures.run c.drive_login.ensures.stopped c.dismiss.ensures.client c.dismiss.ensures.pass;
    }

pub returns-clause-allowed : goal.returns-clause-allowed
returns-clause-allowed g c = λ t l.
    let client = g.C.ClientEnd.facts c.admit-client.result.0 in
    let end = c.admit-client.result.1 in
    let tells = c.drive_login.ensures.login.tells ∙ (ap (λ (x : ClientFacts). x.tells) c.new-run.ensures.client ∙ t) in
    let lets = still_lets_in g.D.LinkDesk.home c.args.login c.drive_login.new.run.login (c.drive_login.ensures.login.settings ∙ ap (λ (x : LoginView). x.settings) c.new-run.ensures.login) (c.drive_login.ensures.login.users ∙ ap (λ (x : LoginView). x.users) c.new-run.ensures.login) l in
    let x = traces_first g.D.LinkDesk.home c.args.login c.new-run.result c.drive_login.new.run _ _ end c.new-run.ensures.login c.drive_login.ensures.login c.admit-client.ensures.traces in
    told_as g.D.LinkDesk.home c.args.login client (g.C.ClientEnd.facts c.tell.new.client) (g.D.LinkDesk.counted c.args.pass) (g.D.LinkDesk.counted c.admit-client.new.self.pass) x.last (g.D.LinkDesk.holder c.args.pass) (g.D.LinkDesk.holder c.admit-client.new.self.pass) x.again end
    (subst (λ (w : FinalMessage). HasGiven client (g.C.ClientEnd.facts c.tell.new.client) (last_bytes w)) c.into_final_message.ensures c.tell.ensures.given)
    (c.admit-client.ensures.tells ∙ tells)
    (came_first _ c.args.login c.new-run.result c.drive_login.new.run _ end c.new-run.ensures.login c.drive_login.ensures.login c.admit-client.ensures.came)
    (stayed_first c.args.login c.new-run.result c.drive_login.new.run _ _ client end c.new-run.ensures.login c.drive_login.ensures.login c.admit-client.ensures.managed)
    x.traces
    (subst (λ (v : LoginView). ServesAs g.D.LinkDesk.home v client end) c.new-run.ensures.login (same_serves g.D.LinkDesk.home c.new-run.result c.drive_login.new.run client end c.drive_login.ensures.login (c.admit-client.ensures.serves tells lets)))

pub returns-clause-over : goal.returns-clause-over
returns-clause-over g c = inr (inr (record {
  ending = c.admit-client.result.1;
  before = g.C.ClientEnd.facts c.admit-client.result.0;
  traces = traces_first g.D.LinkDesk.home c.args.login c.new-run.result c.drive_login.new.run _ _ c.admit-client.result.1 c.new-run.ensures.login c.drive_login.ensures.login c.admit-client.ensures.traces;
  refused = c.admit-client.ensures.refused;
  found = c.admit-client.ensures.found;
  struck = c.admit-client.ensures.struck;
  came = came_first _ c.args.login c.new-run.result c.drive_login.new.run _ c.admit-client.result.1 c.new-run.ensures.login c.drive_login.ensures.login c.admit-client.ensures.came;
  managed = stayed_first c.args.login c.new-run.result c.drive_login.new.run _ _ _ c.admit-client.result.1 c.new-run.ensures.login c.drive_login.ensures.login c.admit-client.ensures.managed;
  told = subst (λ (w : FinalMessage). HasGiven (g.C.ClientEnd.facts c.admit-client.result.0) (g.C.ClientEnd.facts c.tell.new.client) (last_bytes w)) c.into_final_message.ensures c.tell.ensures.given;
}))
