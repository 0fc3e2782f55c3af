use Rattle.std.proofs.Common.{sym, ◌∙◌}
use Rattle.stub_server.proofs.Connecting.{none_held, over_now}
use Rattle.stub_server.proofs.connection.turn.Goals as goal

pub returns-in-Some : goal.returns-in-Some
returns-in-Some g c =
    over_now _ c.args.talk.now.server c.args.talk.now.stage c.args.talk.now.inbox c.args.talk.now.outbox c.in-Some.ending (sym c.outbox.ensures ∙ none_held c.outbox.result.now c.if-not-is_empty.ensures) (sym c.in-Some.ensures)
