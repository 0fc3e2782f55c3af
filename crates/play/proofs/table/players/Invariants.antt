use Rattle.std.proofs.Common.{take}
use Rattle.play.specs.Players.{ArePlayers}
use Rattle.play.proofs.table.players.Given as goal

abbrev pub invariant-loop-script : goal.invariant-loop-script
invariant-loop-script l = ArePlayers l.pool (take l.script-index l.scripts) l.players.items
