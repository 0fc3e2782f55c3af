use Rattle.std.proofs.Common.{◌≡◌, ◌≤◌, ℕ, ap, sym, subst, ◌∙◌}
use Rattle.std.specs.Prelude.{count_by, option_copied}
use Rattle.session_values.specs.State.{StartKeyOf}
use Rattle.book_model.specs.Book.{Book, Ticket, is_of, waiting_before}
use Rattle.book_register.proofs.Takes.{granted_done, has_ticket, is_first, late_done, one_ticket, shut_done, waiting_done}
use Rattle.book_register.proofs.book_state.BookState.takes.Goals as goal

pub get-requires : goal.get-requires
get-requires c = let P : Book → Type 0 = λ b. (n : ℕ) → count_by (is_of n) b.tickets ≤ 1 in record { once = subst P (sym c.self.view_is) (one_ticket _ _ _ c.requires.kept.clients) }

pub returns-then-self : goal.returns-then-self
returns-then-self c = shut_done _ c.args.self.now _ c.args.client c.in-Some.ticket.now _ c.self.view_is (sym c.get.ensures ∙ ap option_copied c.in-Some.is) c.if-self.true c.loses_ticket.ensures.book c.loses_ticket.ensures.reply

pub returns-then-has_waited : goal.returns-then-has_waited
returns-then-has_waited c = late_done _ c.args.self.now _ c.args.client c.in-Some.ticket.now _ c.self.view_is (sym c.get.ensures ∙ ap option_copied c.in-Some.is) c.if-self.false (sym c.has_waited.ensures ∙ c.if-has_waited.true) c.loses_ticket-then-has_waited.ensures.book c.loses_ticket-then-has_waited.ensures.reply

pub waiting_before-before-requires-clause-once : goal.waiting_before-before-requires-clause-once
waiting_before-before-requires-clause-once c = let P : Book → Type 0 = λ b. (n : ℕ) → count_by (is_of n) b.tickets ≤ 1 in subst P (sym c.self.view_is) (one_ticket _ _ _ c.requires.kept.clients)

pub waiting_before-before-requires-clause-there : goal.waiting_before-before-requires-clause-there
waiting_before-before-requires-clause-there c = has_ticket c.args.client c.self.inside.tickets c.in-Some.ticket.now (sym c.get.ensures ∙ ap option_copied c.in-Some.is)

pub returns-then-must_wait : goal.returns-then-must_wait
returns-then-must_wait c =
    let counted : c.waiting_before-before.result ≡ waiting_before c.in-Some.ticket.now.key c.args.client c.args.self.now.tickets = c.waiting_before-before.ensures ∙ (ap (λ (k : StartKeyOf). waiting_before k c.args.client c.self.inside.tickets) (ap (λ (t : Ticket). t.key) c.ticket.view_is) ∙ ap (λ (b : Book). waiting_before c.in-Some.ticket.now.key c.args.client b.tickets) c.self.view_is) in
    waiting_done _ c.args.self.now c.args.client c.waiting_before-before.result c.in-Some.ticket.now c.self.view_is (sym c.get.ensures ∙ ap option_copied c.in-Some.is) c.if-self.false (sym c.has_waited.ensures ∙ c.if-has_waited.false) counted (sym c.must_wait.ensures ∙ c.if-must_wait.true)

pub grants-requires-clause-first : goal.grants-requires-clause-first
grants-requires-clause-first c = λ t at.
    let counted : c.waiting_before-before.result ≡ waiting_before c.in-Some.ticket.now.key c.args.client c.args.self.now.tickets = c.waiting_before-before.ensures ∙ (ap (λ (k : StartKeyOf). waiting_before k c.args.client c.self.inside.tickets) (ap (λ (t : Ticket). t.key) c.ticket.view_is) ∙ ap (λ (b : Book). waiting_before c.in-Some.ticket.now.key c.args.client b.tickets) c.self.view_is) in
    is_first _ c.args.self.now c.args.client c.waiting_before-before.result c.in-Some.ticket.now t c.self.view_is (sym c.get.ensures ∙ ap option_copied c.in-Some.is) counted (sym c.must_wait.ensures ∙ c.if-must_wait.false) at

pub returns : goal.returns
returns c =
    let counted : c.waiting_before-before.result ≡ waiting_before c.in-Some.ticket.now.key c.args.client c.args.self.now.tickets = c.waiting_before-before.ensures ∙ (ap (λ (k : StartKeyOf). waiting_before k c.args.client c.self.inside.tickets) (ap (λ (t : Ticket). t.key) c.ticket.view_is) ∙ ap (λ (b : Book). waiting_before c.in-Some.ticket.now.key c.args.client b.tickets) c.self.view_is) in
    granted_done _ c.args.self.now _ c.args.client c.waiting_before-before.result c.in-Some.ticket.now _ c.self.view_is (sym c.get.ensures ∙ ap option_copied c.in-Some.is) c.if-self.false (sym c.has_waited.ensures ∙ c.if-has_waited.false) counted (sym c.must_wait.ensures ∙ c.if-must_wait.false) c.grants.ensures
