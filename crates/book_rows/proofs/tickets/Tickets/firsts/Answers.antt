use Rattle.std.proofs.Common.{List, ℕ, sym, subst, ◌∙◌}
use Rattle.book_model.specs.Book.{Ticket}
use Rattle.numbered_rows.specs.Numbered.{rows_in}
use Rattle.book_rows.specs.Waiting.{TellsFirsts, TellsWaiting}
use Rattle.book_rows.proofs.Telling.{pools_first, pools_waiting, slots_first, slots_waiting}
use Rattle.book_rows.proofs.tickets.Tickets.firsts.Goals as goal

pub returns-in-Some-clause-all : goal.returns-in-Some-clause-all
returns-in-Some-clause-all c =
    let told = pools_first c.self.inside.pools _ c.self.inside.rows c.in-Some.is c.self.invariant in
    subst (λ (rows : List Ticket). TellsFirsts c.by_pool.result rows) c.self.view_is (subst (λ (ns : List ℕ). TellsFirsts ns c.self.inside.rows) (sym c.by_pool.ensures.told) told)

pub returns-in-Some-clause-only : goal.returns-in-Some-clause-only
returns-in-Some-clause-only c =
    let told = pools_waiting c.self.inside.pools _ c.self.inside.rows c.in-Some.is c.self.invariant c.by_pool.ensures.once in
    subst (λ (rows : List Ticket). TellsWaiting c.by_pool.result rows) c.self.view_is (subst (λ (ns : List ℕ). TellsWaiting ns c.self.inside.rows) (sym c.by_pool.ensures.told) told)

pub returns-in-None-clause-all : goal.returns-in-None-clause-all
returns-in-None-clause-all c =
    subst (λ (rows : List Ticket). TellsFirsts c.of_all.result rows) (c.slots.ensures.rows ∙ c.self.view_is) (subst (λ (ns : List ℕ). TellsFirsts ns (rows_in c.slots.result.now.items)) (sym c.of_all.ensures) (slots_first c.slots.result.now.items))

pub returns-in-None-clause-only : goal.returns-in-None-clause-only
returns-in-None-clause-only c =
    subst (λ (rows : List Ticket). TellsWaiting c.of_all.result rows) (c.slots.ensures.rows ∙ c.self.view_is) (subst (λ (ns : List ℕ). TellsWaiting ns (rows_in c.slots.result.now.items)) (sym c.of_all.ensures) (slots_waiting c.slots.result.now.items))
