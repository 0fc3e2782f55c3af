use Rattle.std.proofs.Common.{◌≤◌, ◌<◌, ℕ, length, ap, sym, subst, ◌∙◌, arith}
use Rattle.std.specs.Prelude.{count_by, find, option_copied}
use Rattle.book_model.specs.Book.{Book, is_client, is_link, is_of}
use Rattle.book_model.specs.Outcomes.{last_decision}
use Rattle.book_model.specs.declared.limits.TheConstants.{MAX_LINKS}
use Rattle.book_register.specs.Choices.{Chooses}
use Rattle.book_register.specs.declared.book_state.Choice.{Choice}
use Rattle.book_register.proofs.Takes.{evict_done, lend_done, may_reuse, may_start, one_idle, one_more_fits, one_ticket, start_done, started_fits}
use Rattle.book_register.proofs.Choices.{some_length}
use Rattle.book_register.proofs.book_state.BookState.grants.Goals as goal

pub get-requires : goal.get-requires
get-requires c = let P : Book → Type 0 = λ b. (n : ℕ) → count_by (is_of n) b.tickets ≤ 1 in record { once = subst P (sym c.self.view_is) (one_ticket _ _ _ c.requires.kept.clients) }

pub choice-choice-requires : goal.choice-choice-requires
choice-choice-requires c = record { once = one_idle _ _ _ c.requires.kept.links }

pub take_out-requires : goal.take_out-requires
take_out-requires c = let P : Book → Type 0 = λ b. (n : ℕ) → count_by (is_of n) b.tickets ≤ 1 in record { once = subst P (sym c.self.view_is) (one_ticket _ _ _ c.requires.kept.clients) }

pub take_out-requires-in-Lend : goal.take_out-requires-in-Lend
take_out-requires-in-Lend c = let P : Book → Type 0 = λ b. (n : ℕ) → count_by (is_link n) b.idle ≤ 1 in record { once = subst P (sym c.self.view_is) (one_idle _ _ _ c.requires.kept.links) }

pub take_out-requires-in-Evict : goal.take_out-requires-in-Evict
take_out-requires-in-Evict c = let P : Book → Type 0 = λ b. (n : ℕ) → count_by (is_link n) b.idle ≤ 1 in record { once = subst P (sym c.self.view_is) (one_idle _ _ _ c.requires.kept.links) }

pub lends-requires : goal.lends-requires
lends-requires c =
    let idle = some_length _ c.args.self.now.idle c.in-Some-take_out-2.link (ap (λ (b : Book). find (is_link c.in-Lend.idle) b.idle) (sym c.self.view_is) ∙ (sym c.take_out-in-Lend.ensures.link ∙ c.in-Some-take_out-2.is)) in
    let R : Book → Type 0 = λ b. length b.lent < MAX_LINKS in
    let P : Book → Type 0 = λ b. (n : ℕ) → count_by (is_client n) b.clients ≤ 1 in
    let M : Book → Type 0 = λ b. b.reuses < last_decision in
    record { room = subst R (sym c.self.view_is) (one_more_fits c.args.self.now c.requires.kept idle); once = subst P (sym c.self.view_is) c.requires.kept.clients.once; more = subst M (sym c.self.view_is) (may_reuse c.args.self.now c.requires.kept c.requires.more) }

pub starts-requires : goal.starts-requires
starts-requires c =
    let way = subst (λ (k : Choice). Chooses c.args.self.now c.in-Some.ticket.now k) c.in-Start.is c.choice-choice.ensures in
    let R : Book → Type 0 = λ b. length b.lent < MAX_LINKS in
    let P : Book → Type 0 = λ b. (n : ℕ) → count_by (is_client n) b.clients ≤ 1 in
    let M : Book → Type 0 = λ b. b.starts < last_decision in
    let N : Book → Type 0 = λ b. b.next_link ≤ last_decision in
    let may = may_start c.args.self.now c.requires.kept c.requires.more in
    record { room = subst R (sym c.self.view_is) (started_fits c.args.self.now c.requires.kept way.0); once = subst P (sym c.self.view_is) c.requires.kept.clients.once; more = subst M (sym c.self.view_is) may.0; next = subst N (sym c.self.view_is) may.1 }

pub starts-requires-in-Evict : goal.starts-requires-in-Evict
starts-requires-in-Evict c =
    let way = subst (λ (k : Choice). Chooses c.args.self.now c.in-Some.ticket.now k) c.in-Evict.is c.choice-choice.ensures in
    let R : Book → Type 0 = λ b. length b.lent < MAX_LINKS in
    let P : Book → Type 0 = λ b. (n : ℕ) → count_by (is_client n) b.clients ≤ 1 in
    let M : Book → Type 0 = λ b. b.starts < last_decision in
    let N : Book → Type 0 = λ b. b.next_link ≤ last_decision in
    let may = may_start c.args.self.now c.requires.kept c.requires.more in
    record { room = subst R (sym c.self.view_is) (one_more_fits c.args.self.now c.requires.kept way.0); once = subst P (sym c.self.view_is) c.requires.kept.clients.once; more = subst M (sym c.self.view_is) may.0; next = subst N (sym c.self.view_is) may.1 }

pub returns-in-Some-take_out-2 : goal.returns-in-Some-take_out-2
returns-in-Some-take_out-2 c = λ t at. lend_done _ c.args.self.now _ c.args.client c.in-Lend.idle t c.in-Some-take_out.ticket c.in-Some.ticket.now c.in-Some-take_out-2.link _ _ _ c.self.view_is at (sym c.take_out.ensures.ticket ∙ c.in-Some-take_out.is) (sym c.get.ensures ∙ ap option_copied c.in-Some.is) (subst (λ (k : Choice). Chooses c.args.self.now c.in-Some.ticket.now k) c.in-Lend.is c.choice-choice.ensures) (sym c.take_out-in-Lend.ensures.link ∙ c.in-Some-take_out-2.is) c.take_out.ensures.rest c.take_out-in-Lend.ensures.rest c.lends.ensures.book c.lends.ensures.reply

pub returns-in-Start : goal.returns-in-Start
returns-in-Start c = λ t at. start_done _ c.args.self.now _ c.args.client t c.in-Some-take_out.ticket c.in-Some.ticket.now _ _ c.self.view_is at (sym c.take_out.ensures.ticket ∙ c.in-Some-take_out.is) (sym c.get.ensures ∙ ap option_copied c.in-Some.is) (subst (λ (k : Choice). Chooses c.args.self.now c.in-Some.ticket.now k) c.in-Start.is c.choice-choice.ensures) c.take_out.ensures.rest c.starts.ensures.book c.starts.ensures.reply

pub returns-in-Evict : goal.returns-in-Evict
returns-in-Evict c = λ t at. evict_done _ c.args.self.now _ c.args.client c.in-Evict.idle _ t c.in-Some-take_out.ticket c.in-Some.ticket.now _ _ _ c.self.view_is at (sym c.take_out.ensures.ticket ∙ c.in-Some-take_out.is) (sym c.get.ensures ∙ ap option_copied c.in-Some.is) (subst (λ (k : Choice). Chooses c.args.self.now c.in-Some.ticket.now k) c.in-Evict.is c.choice-choice.ensures) c.take_out.ensures.rest c.take_out-in-Evict.ensures.rest (omega arith) c.starts-in-Evict.ensures.book c.starts-in-Evict.ensures.reply
