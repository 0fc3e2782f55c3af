use Rattle.std.proofs.Common.{rules, ◌≡◌, ◌<◌, true, false, find, ap, sym, ◌∙◌}
use Rattle.book_model.specs.Book.{is_link}
use Rattle.book_model.specs.Outcomes.{Answer, is_started_as, last_decision}
use Rattle.book_model.specs.Outcomes.Event.{GiveBack}
use Rattle.book_register.proofs.Beginnings.{kept_on}
use Rattle.book_register.proofs.Decisions.{at_last, before_last, still_counted, still_more}
use Rattle.book_register.proofs.Returning.{return_counted, return_last, return_own, return_strange}
use Rattle.book_register.proofs.book_state.BookState.apply_return.Goals as goal

pub returns-then-self : goal.returns-then-self
returns-then-self c =
    let is = return_last c.args.self.now c.args.number c.args.key.now c.args.started_at (at_last _ c.args.self.now c.self.view_is c.if-self.true) in
    record { kept = c.requires.kept; book = sym (ap (λ (a : Answer). a.book) is); reply = sym (ap (λ (a : Answer). a.reply) is) }

pub returns-then-not-is_lent_as : goal.returns-then-not-is_lent_as
returns-then-not-is_lent_as c =
    let other : c.is_lent_as.result ≡ false = search rules in
    let is = return_strange c.args.self.now c.args.number c.args.key.now c.args.started_at (before_last _ c.args.self.now c.self.view_is c.if-self.false) (sym c.is_lent_as.ensures ∙ other) in
    record { kept = c.requires.kept; book = sym (ap (λ (a : Answer). a.book) is); reply = sym (ap (λ (a : Answer). a.reply) is) }

pub count-requires-clause-all : goal.count-requires-clause-all
count-requires-clause-all c = still_counted c.args.self.now _ (GiveBack c.args.number) _ c.requires.kept.counts c.gives_back-reply.ensures

pub count-requires-clause-more : goal.count-requires-clause-more
count-requires-clause-more c =
    let more : c.args.self.now.decisions < last_decision = search rules in
    still_more c.args.self.now _ (GiveBack c.args.number) _ more c.gives_back-reply.ensures

pub returns : goal.returns
returns c =
    let own : is_started_as c.args.key.now c.args.started_at (find (is_link c.args.number) c.args.self.now.lent) ≡ true = search rules in
    let is = return_own c.args.self.now c.args.number c.args.key.now c.args.started_at (before_last _ c.args.self.now c.self.view_is c.if-self.false) own in
    let g = return_counted _ c.args.self.now _ _ c.args.number c.args.key.now c.args.started_at _ c.self.view_is c.if-self.false own c.gives_back-reply.ensures c.count.ensures in
    record { kept = kept_on _ _ (GiveBack c.args.number) _ tt c.requires.kept g; book = g.0 ∙ sym (ap (λ (a : Answer). a.book) is); reply = g.1 ∙ sym (ap (λ (a : Answer). a.reply) is) }
