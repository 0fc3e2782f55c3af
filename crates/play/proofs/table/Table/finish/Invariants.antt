use Rattle.std.proofs.Common.{◌≡◌, take}
use Rattle.play.specs.Players.{AreAllowed}
use Rattle.play.proofs.table.Table.finish.Given as goal

abbrev pub invariant-loop-at : goal.invariant-loop-at
invariant-loop-at l = (l.self ≡ l.initial.self) × AreAllowed l.self.pool (take l.at l.self.senders) l.all.items
