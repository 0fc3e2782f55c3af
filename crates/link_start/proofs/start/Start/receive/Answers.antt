use Rattle.std.proofs.Common.{ℕ, List, ◌++◌, take, arith, sym, ap, ◌∙◌, subst}
use Rattle.link_start.specs.Starts.{StartView, IsStartUnderWay}
use Rattle.link_start.proofs.Starting.{start_got, start_heard}
use Rattle.link_start.proofs.start.Start.receive.Goals as goal

pub returns-in-Count-clause-under_way : goal.returns-in-Count-clause-under_way
returns-in-Count-clause-under_way g c = λ b s x.
    let y = subst (λ (v : StartView). IsStartUnderWay b s v) (sym c.self.view_is) x in
    start_got b _ _ s _ _ _ _ _ _ _ _ c.in-Count.ensures.moves (c.extend_reserved.ensures.items ∙ ap (λ (l : List ℕ). l ++ take c.in-Count.count c.read_some.new.into) c.in_ok-reserve.ensures.items)
    (omega (arith, c.in-Count.ensures.counts.faults)) y

pub returns-in-NotNow-clause-under_way : goal.returns-in-NotNow-clause-under_way
returns-in-NotNow-clause-under_way g c = λ b s x.
    let y = subst (λ (v : StartView). IsStartUnderWay b s v) (sym c.self.view_is) x in
    start_heard b _ _ s _ _ _ _ _ _ _ c.in-NotNow.ensures.moves c.in_ok-reserve.ensures.items (omega (arith, c.in-NotNow.ensures.counts.faults)) y
