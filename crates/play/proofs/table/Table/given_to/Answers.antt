use Rattle.std.proofs.Common.{◌∙◌, ap, subst, sym, arith, get_or, length, slice_set}
use Rattle.act_client.specs.Acts.{Sender}
use Rattle.play.specs.Players.{ArePlayers, IsPlayer, TableOf}
use Rattle.play.proofs.Tables.{zip-at, zip-length, zip-set}
use Rattle.play.proofs.table.Table.given_to.Goals as goal

pub index_mut-requires : goal.index_mut-requires
index_mut-requires c =
    omega (arith, c.self.inside.players.ok.0, zip-length (IsPlayer c.self.inside.pool) c.self.inside.scripts.now c.self.inside.players.items c.self.invariant, ap (λ (t : TableOf). length t.senders) c.self.view_is, c.requires.there)

pub finish-requires : goal.finish-requires
finish-requires c =
    let script = c.requires.script ∙ ap (λ (t : TableOf). get_or t.senders c.args.at c.args.script.now) (sym c.self.view_is) in
    subst (λ (s : Sender). IsPlayer c.self.inside.pool s c.index_mut.result.now) (sym script)
    (subst (λ p. IsPlayer c.self.inside.pool (get_or c.self.inside.scripts.now c.args.at c.args.script.now) p) (sym c.index_mut.ensures.value)
    (zip-at (IsPlayer c.self.inside.pool) c.self.inside.scripts.now c.self.inside.players.items c.args.at c.args.script.now c.index_mut.result.now c.self.invariant
    (omega (arith, ap (λ (t : TableOf). length t.senders) c.self.view_is, c.requires.there))))

pub invariant_of-self : goal.invariant_of-self
invariant_of-self c =
    let script = c.requires.script ∙ ap (λ (t : TableOf). get_or t.senders c.args.at c.args.script.now) (sym c.self.view_is) in
    subst (λ h. ArePlayers h c.self.inside.scripts.now (slice_set c.self.inside.players.items c.args.at c.finish.new.self)) (sym c.finish.ensures.same)
    (zip-set (IsPlayer c.self.inside.pool) c.self.inside.scripts.now c.self.inside.players.items c.args.at c.args.script.now c.finish.new.self c.self.invariant
    (subst (λ (s : Sender). IsPlayer c.self.inside.pool s c.finish.new.self) script c.finish.ensures.player))
