use Rattle.std.specs.Arc.{arc_value}
use Rattle.session_values.specs.Extended.{is_there}
use Rattle.stub_server.specs.Talks.{Says}
use Rattle.stub_server.proofs.connection.serve_client.Given as goal

abbrev pub invariant-loop : goal.invariant-loop
invariant-loop g l = Says (record { catalogue = arc_value l.fn.catalogue; pid = l.fn.own.pid; secret = l.fn.own.secret; strikable = is_there l.fn.flag }) (g.C.ClientEnd.facts l.client) l.talk
