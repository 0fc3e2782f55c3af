use Rattle.std.proofs.Common.{subst, sym, arith, get_or, slice_set}
use Rattle.play.specs.Players.{ArePlayers, IsPlayer}
use Rattle.play.proofs.Tables.{zip-at, zip-set}
use Rattle.play.proofs.table.Table.turn_of.Goals as goal

pub turn-requires : goal.turn-requires
turn-requires c =
    subst (λ p. IsPlayer c.self.inside.pool (get_or c.self.inside.scripts.now c.args.at c.index-scripts-at.result) p) (sym c.index_mut.ensures.value)
    (zip-at (IsPlayer c.self.inside.pool) c.self.inside.scripts.now c.self.inside.players.items c.args.at c.index-scripts-at.result c.index_mut.result.now c.self.invariant (omega (arith, c.if-at-scripts.false)))

pub invariant_of-self-2 : goal.invariant_of-self-2
invariant_of-self-2 c =
    subst (λ h. ArePlayers h c.self.inside.scripts.now (slice_set c.self.inside.players.items c.args.at c.turn.new.self)) (sym c.turn.ensures.same)
    (zip-set (IsPlayer c.self.inside.pool) c.self.inside.scripts.now c.self.inside.players.items c.args.at c.index-scripts-at.result c.turn.new.self c.self.invariant c.turn.ensures.player)
