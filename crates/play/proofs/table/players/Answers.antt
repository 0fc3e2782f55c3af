use Rattle.std.proofs.Common.{subst, sym, take, ◌+◌}
use Rattle.play.specs.Players.{ArePlayers, IsPlayer}
use Rattle.play.proofs.Tables.{zip-taken}
use Rattle.play.proofs.table.players.Goals as goal

pub loop-script-preserved : goal.loop-script-preserved
loop-script-preserved c =
    subst (λ l. ArePlayers c.args.pool.now (take (c.loop-script.script-index + 1) c.args.scripts.now) l) (sym c.in_ok-push.ensures.items)
    (zip-taken (IsPlayer c.args.pool.now) c.args.scripts.now c.loop-script.players.items c.loop-script.script-index c.script-item.result c.in_ok-new.field-0 c.loop-script-test.true c.script-item.is c.loop-script.invariant c.in_ok-new.ensures)
