use Rattle.std.proofs.Common.{inl, refl, sym, ap, ◌∙◌, subst}
use Rattle.ini_config.specs.Bounds.{AreWithinBounds}
use Rattle.ini_config.specs.declared.option_values.Settings.{Settings}
use Rattle.link_model.specs.Standing.{ClientFacts}
use Rattle.login_core.specs.Logins.{LoginView}
use Rattle.pool_serve.specs.declared.logged_in.LoggedIn.{LoggedIn}
use Rattle.pool_serve.proofs.Again.{guest_traces}
use Rattle.pool_serve.proofs.Leases.{came_in, same_came}
use Rattle.pool_serve.proofs.Managing.{logged_in_serves, same_if_managed, same_serves, unmanaged}
use Rattle.pool_serve.proofs.Logging.{is_logged_in, key_is, logged_in_ends, run_ends, still_lets_in}
use Rattle.pool_serve.proofs.worker.Worker.serve_arrived.Goals as goal

pub host-requires-clause-logged_in : goal.host-requires-clause-logged_in
host-requires-clause-logged_in g c =
    is_logged_in c.bounded_rows_are_lawful.ensures c.passed_keys_are_link_keys.ensures c.passed_keys_are_of_their_rows.ensures c.passed_runs_have_passed.ensures c.drive_login.new.run _ c.finish-client-2.ensures.run (key_is c.drive_login.new.run.phase c.finish-client-2.result.2 c.in-Some.key c.in-Some.is c.finish-client-2.ensures.key) c.finish-client-2.ensures.login (subst (λ (s : Settings). AreWithinBounds s) (sym c.drive_login.ensures.login.settings) c.requires.settings)

pub returns-in-Some-clause-came : goal.returns-in-Some-clause-came
returns-in-Some-clause-came g c =
    let same = c.drive_login.ensures.login in
    let login = c.finish-client-2.ensures.login in
    came_in _ c.args.run.login _ _ _ c.host.result.1
    (record { word = sym c.requires.word; settings = ap (λ (v : LoginView). v.settings) login ∙ same.settings; users = ap (λ (v : LoginView). v.users) login ∙ same.users })
    c.host.ensures.ended.ended.came

pub returns-in-Some-clause-managed : goal.returns-in-Some-clause-managed
returns-in-Some-clause-managed g c =
    let logged_in : LoggedIn = record { key = c.in-Some.key; word = c.args.word; login = c.finish-client-2.result.1 } in
    unmanaged g.D.LinkDesk.home logged_in (g.C.ClientEnd.facts c.finish-client-2.result.0) (g.C.ClientEnd.facts c.host.result.0) c.host.result.1 _ c.host.ensures.ended.ended.came

pub returns-in-Some-clause-traces : goal.returns-in-Some-clause-traces
returns-in-Some-clause-traces g c =
    let same = c.drive_login.ensures.login in
    let login = c.finish-client-2.ensures.login in
    guest_traces _ c.args.run.login _ _ _ _ _ c.host.result.1
    (record { word = sym c.requires.word; settings = ap (λ (v : LoginView). v.settings) login ∙ same.settings; users = ap (λ (v : LoginView). v.users) login ∙ same.users })
    c.host.ensures.ended

pub returns-in-Some-clause-serves : goal.returns-in-Some-clause-serves
returns-in-Some-clause-serves g c = λ t l.
    let logged_in : LoggedIn = record { key = c.in-Some.key; word = c.args.word; login = c.finish-client-2.result.1 } in
    logged_in_serves g.D.LinkDesk.home c.args.run.login logged_in _ _ c.host.result.1 c.host.ensures.ended.ended.came
    (logged_in_ends c.passed_runs_are_let_in.ensures g.D.LinkDesk.home c.args.run c.drive_login.new.run logged_in (g.C.ClientEnd.facts c.finish-client-2.result.0) (g.C.ClientEnd.facts c.host.result.0) _ c.drive_login.ensures.login c.finish-client-2.ensures.run
    (key_is c.drive_login.new.run.phase c.finish-client-2.result.2 c.in-Some.key c.in-Some.is c.finish-client-2.ensures.key)
    c.in-Passed.ensures.stopped c.finish-client-2.ensures.client
    (sym (c.drive_login.ensures.login.word ∙ c.requires.word))
    c.finish-client-2.ensures.login
    t
    (c.host.ensures.ended.ended.serves (ap (λ (x : ClientFacts). x.tells) c.finish-client-2.ensures.client ∙ (c.drive_login.ensures.login.tells ∙ t))
    (still_lets_in g.D.LinkDesk.home c.args.run.login c.finish-client-2.result.1 (ap (λ (x : LoginView). x.settings) c.finish-client-2.ensures.login ∙ c.drive_login.ensures.login.settings) (ap (λ (x : LoginView). x.users) c.finish-client-2.ensures.login ∙ c.drive_login.ensures.login.users) l)))

pub returns-in-None-clause-serves : goal.returns-in-None-clause-serves
returns-in-None-clause-serves g c = λ t l. run_ends c.runs_are_allowed.ensures g.D.LinkDesk.home c.args.run c.drive_login.new.run (g.C.ClientEnd.facts c.finish-client-2.result.0) c.drive_login.ensures.login c.finish-client-2.ensures.run c.finish-client-2.ensures.client t

pub returns-in-None-clause-traces : goal.returns-in-None-clause-traces
returns-in-None-clause-traces g c = record { last = _; again = inl refl; traces = refl }

pub returns-in_default : goal.returns-in_default
returns-in_default g c = record {
  tells = ap (λ (x : ClientFacts). x.tells) c.finish-client.ensures.client ∙ c.drive_login.ensures.login.tells;
  share = record { stay = record { arrived = refl; left = refl }; leases = λ e. (e, refl) };
  leased = record { client = refl; lease = c.requires.none; refused = c.requires.unrefused; found = refl; struck = refl };
  traces = record { last = _; again = inl refl; traces = refl };
  came = tt;
  managed = tt;
  serves = λ t l. run_ends c.runs_are_allowed.ensures g.D.LinkDesk.home c.args.run c.drive_login.new.run (g.C.ClientEnd.facts c.finish-client.result.0) c.drive_login.ensures.login c.finish-client.ensures.run c.finish-client.ensures.client t;
}

pub returns-in-Console : goal.returns-in-Console
returns-in-Console g c = record {
  tells = c.manage.ensures.tells ∙ c.drive_login.ensures.login.tells;
  share = c.manage.ensures.share;
  leased = record {
    client = c.manage.ensures.holder.client;
    lease = c.manage.ensures.holder.lease ∙ c.requires.none;
    refused = c.manage.ensures.holder.refused ∙ (c.requires.unrefused ∙ sym c.manage.ensures.refused);
    found = c.manage.ensures.holder.found;
    struck = c.manage.ensures.holder.struck;
  };
  traces = record { last = _; again = inl refl; traces = c.manage.ensures.traces };
  came = same_came _ c.args.run c.drive_login.new.run (g.C.ClientEnd.facts c.manage.result.0) c.manage.result.1 c.drive_login.ensures.login c.manage.ensures.came;
  managed = same_if_managed c.args.run c.drive_login.new.run _ _ (g.C.ClientEnd.facts c.manage.result.0) c.manage.result.1 c.drive_login.ensures.login c.manage.ensures.managed;
  serves = λ t l. same_serves g.D.LinkDesk.home c.args.run c.drive_login.new.run (g.C.ClientEnd.facts c.manage.result.0) c.manage.result.1 c.drive_login.ensures.login (c.manage.ensures.serves (c.drive_login.ensures.login.tells ∙ t));
}
