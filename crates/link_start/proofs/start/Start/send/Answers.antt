use Rattle.std.proofs.Common.{drop, arith, sym, ap, ◌∙◌, subst}
use Rattle.link_run.proofs.Resetting.{split_unsent}
use Rattle.link_start.specs.Starts.{StartView, IsStartUnderWay}
use Rattle.link_start.proofs.Reading.{rest_at}
use Rattle.link_start.proofs.Starting.{start_sent, start_unsent}
use Rattle.link_start.proofs.start.Start.send.Goals as goal

pub returns-in-Count-clause-under_way : goal.returns-in-Count-clause-under_way
returns-in-Count-clause-under_way g c = λ b s x.
    let y = subst (λ (v : StartView). IsStartUnderWay b s v) (sym c.self.view_is) x in
    start_sent b _ _ s _ _ _ _ _ _ _ _ c.in-Count.ensures.moves
    (split_unsent c.self.inside.sent c.in-Count.count c.self.inside.messages.items _ (rest_at c.self.inside.sent c.as_slice.result.now ∙ ap (drop c.self.inside.sent) c.as_slice.ensures)) (omega (arith, c.in-Count.ensures.counts.faults)) y

pub returns-in-NotNow-clause-under_way : goal.returns-in-NotNow-clause-under_way
returns-in-NotNow-clause-under_way g c = λ b s x.
    let y = subst (λ (v : StartView). IsStartUnderWay b s v) (sym c.self.view_is) x in
    start_unsent b _ _ s _ _ _ _ _ _ c.in-NotNow.ensures.moves (omega (arith, c.in-NotNow.ensures.counts.faults)) y
