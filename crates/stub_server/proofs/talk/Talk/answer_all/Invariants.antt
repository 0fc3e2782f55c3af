use Rattle.std.proofs.Common.{[], length}
use Rattle.stub_server.specs.Talks.{Hears}
use Rattle.stub_server.proofs.talk.Talk.answer_all.Given as goal

abbrev pub invariant-packets : goal.invariant-packets
invariant-packets l = Hears l.initial.self l.self []

abbrev pub decreases-packets : goal.decreases-packets
decreases-packets l = length l.self.inbox
