use Rattle.std.proofs.Common.{length}
use Rattle.tcp_end.proofs.Giving.{given}
use Rattle.tcp_end.proofs.socket.give.Goals as goal

pub returns-clause-bytes : goal.returns-clause-bytes
returns-clause-bytes c =
    let gave = c.give-count.ensures in
    λ rest. rw gave.left (given c.give-count.result (length c.args.into.now) c.args.ahead.now c.args.into.now c.give-count.new.into rest gave.count gave.bytes)
