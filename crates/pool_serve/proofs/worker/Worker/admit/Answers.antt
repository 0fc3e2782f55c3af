use Rattle.std.proofs.Common.{ap, ◌∙◌}
use Rattle.console_run.specs.Passing.{pass_of}
use Rattle.link_model.specs.Standing.{ClientFacts}
use Rattle.pool_serve.proofs.Again.{asked_once, same_asking, stay_at_last}
use Rattle.pool_serve.proofs.Causing.{arrival_traces}
use Rattle.pool_serve.proofs.Leases.{same_came}
use Rattle.pool_serve.proofs.Logging.{arrival_ends, still_lets_in}
use Rattle.pool_serve.proofs.Managing.{same_if_managed, same_serves, stayed}
use Rattle.pool_serve.proofs.worker.Worker.admit.Goals as goal

pub returns-in-Client-clause-came : goal.returns-in-Client-clause-came
returns-in-Client-clause-came g c = same_came _ c.args.run c.go_on.new.self _ c.serve_arrived-served.result.1 c.go_on.ensures.login c.serve_arrived-served.ensures.came

pub returns-in-Client-clause-managed : goal.returns-in-Client-clause-managed
returns-in-Client-clause-managed g c =
    let old = c.args.self.now.pass in
    let here = c.arrive.new.self.pass in
    let served = c.serve_arrived-served.new.self.pass in
    let gone = c.leave.new.pass in
    stayed c.args.run.login (pass_of (g.D.LinkDesk.counted old) (g.D.LinkDesk.holder old)) (pass_of (g.D.LinkDesk.counted gone) (g.D.LinkDesk.holder gone)) (pass_of (g.D.LinkDesk.counted here) (g.D.LinkDesk.holder here)) (pass_of (g.D.LinkDesk.counted served) (g.D.LinkDesk.holder served))
    (g.C.ClientEnd.facts c.serve_arrived-served.result.0)
    c.serve_arrived-served.result.1
    (record { beyond = _; number = c.in-Client.number; let_in = c.in-Client.ensures.counted; arrived_as = c.in-Client.ensures.holder; gone = c.leave.result; counted = c.leave.ensures.counted; has_left = c.leave.ensures.holder })
    (same_if_managed c.args.run c.go_on.new.self _ _ (g.C.ClientEnd.facts c.serve_arrived-served.result.0) c.serve_arrived-served.result.1 c.go_on.ensures.login c.serve_arrived-served.ensures.managed)

pub returns-in-Client-clause-serves : goal.returns-in-Client-clause-serves
returns-in-Client-clause-serves g c = λ t l.
    same_serves g.D.LinkDesk.home c.args.run c.go_on.new.self (g.C.ClientEnd.facts c.serve_arrived-served.result.0) c.serve_arrived-served.result.1 c.go_on.ensures.login
    (c.serve_arrived-served.ensures.serves (ap (λ (x : ClientFacts). x.tells) c.go_on.ensures.client ∙ t) (still_lets_in g.D.LinkDesk.home c.args.run.login c.go_on.new.self.login c.go_on.ensures.login.settings c.go_on.ensures.login.users l))

pub returns-in-Refused-clause-serves : goal.returns-in-Refused-clause-serves
returns-in-Refused-clause-serves g c = λ t l. arrival_ends c.runs_stand_at_pieces.ensures g.D.LinkDesk.home c.args.run (g.C.ClientEnd.facts c.finish-client.result.0) c.in-Refused.refusal c.in-Refused.ensures.refused c.requires.arrived c.requires.given c.finish-client.ensures.run c.finish-client.ensures.client t

pub returns-in-Client-clause-traces : goal.returns-in-Client-clause-traces
returns-in-Client-clause-traces g c =
    stay_at_last _ c.args.run.login _ _ _ _ c.leave.result c.serve_arrived-served.result.1 c.in-Client.ensures.counted c.leave.ensures.counted (same_asking _ c.args.run c.go_on.new.self _ _ c.serve_arrived-served.result.1 c.go_on.ensures.login c.serve_arrived-served.ensures.traces)

pub returns-in-Refused-clause-traces : goal.returns-in-Refused-clause-traces
returns-in-Refused-clause-traces g c = asked_once _ c.args.run.login _ _ _ (arrival_traces _ _ c.in-Refused.refusal c.in-Refused.ensures.counted c.in-Refused.ensures.refused)
