use Rattle.std.proofs.Common.{◌∙◌, ◌+◌, ap, subst, sym, arith, get_or, length, take, List}
use Rattle.play.specs.declared.played.Given.{Given}
use Rattle.play.specs.Players.{AreAllowed, IsAllowedTo, TableOf}
use Rattle.play.proofs.Tables.{zip-taken}
use Rattle.play.proofs.table.Table.finish.Goals as goal

pub loop-at-preserved : goal.loop-at-preserved
loop-at-preserved c =
    let same = c.self.view_is ∙ sym c.loop-at.invariant.0 in (
      c.given_to.ensures.same ∙ c.loop-at.invariant.0,
      subst (λ (t : TableOf). AreAllowed t.pool (take (c.loop-at.at + 1) t.senders) c.push.new.self.items) (sym c.given_to.ensures.same)
          (subst (λ l. AreAllowed c.loop-at.self.pool (take (c.loop-at.at + 1) c.loop-at.self.senders) l) (sym {A = List Given} c.in_ok-push.ensures.items)
          (zip-taken (IsAllowedTo c.loop-at.self.pool) c.loop-at.self.senders c.loop-at.all.items c.loop-at.at c.index-scripts-at.result c.in_ok-given_to.field-0
          (omega (arith, c.loop-at-test.true, ap (λ (t : TableOf). length t.senders) same))
          (c.index-scripts-at.is ∙ ap (λ (t : TableOf). get_or t.senders c.loop-at.at c.index-scripts-at.result) same)
          c.loop-at.invariant.1
          c.in_ok-given_to.ensures.allowed)),
    )
