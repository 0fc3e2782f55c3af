use Rattle.std.proofs.Common.{rules, ◌≡◌, ◌<◌, None, Some, refl, sym, ◌∙◌}
use Rattle.book_model.specs.Events.{event_of}
use Rattle.book_model.specs.Outcomes.{last_decision}
use Rattle.book_register.proofs.Beginnings.{kept_on}
use Rattle.book_register.proofs.Decisions.{counted_is, goes_on, last_one, still_counted, still_more, strangers}
use Rattle.book_register.proofs.book_state.BookState.apply.Goals as goal

pub returns-then-self : goal.returns-then-self
returns-then-self c =
    let g = last_one _ c.args.self.now (event_of c.args.event) c.self.view_is c.if-self.true in
    record { kept = c.requires.kept; book = g.0; reply = g.1 }

pub returns-then-is_strange : goal.returns-then-is_strange
returns-then-is_strange c =
    let g = strangers _ c.args.self.now (event_of c.args.event) c.self.view_is c.if-self.false (sym c.is_strange.ensures ∙ c.if-is_strange.true) in
    record { kept = c.requires.kept; book = g.0; reply = g.1 }

pub count-requires-clause-all : goal.count-requires-clause-all
count-requires-clause-all c = still_counted c.args.self.now _ (event_of c.args.event) _ c.requires.kept.counts c.happens-reply.ensures

pub count-requires-clause-more : goal.count-requires-clause-more
count-requires-clause-more c =
    let more : c.args.self.now.decisions < last_decision = search rules in
    still_more c.args.self.now _ (event_of c.args.event) _ more c.happens-reply.ensures

pub returns-in-Some : goal.returns-in-Some
returns-in-Some c =
    let d = counted_is c.happens-reply.new.self c.count.new.self c.args.self.now (event_of c.args.event) c.happens-reply.result c.kinds-kinds.result (Some c.in-Some.kind) c.happens-reply.ensures c.kinds-kinds.ensures (sym c.in-Some.is ∙ c.of.ensures) c.count.ensures in
    let g = goes_on _ c.args.self.now _ (event_of c.args.event) _ c.self.view_is c.if-self.false (sym c.is_strange.ensures ∙ c.if-is_strange.false) d in
    record { kept = kept_on _ _ (event_of c.args.event) _ c.event_fits.ensures c.requires.kept g; book = g.0; reply = g.1 }

pub returns-in_default : goal.returns-in_default
returns-in_default c =
    let none : c.of.result ≡ None = search rules in
    let d = counted_is c.happens-reply.new.self c.happens-reply.new.self c.args.self.now (event_of c.args.event) c.happens-reply.result c.kinds-kinds.result None c.happens-reply.ensures c.kinds-kinds.ensures (sym none ∙ c.of.ensures) refl in
    let g = goes_on _ c.args.self.now _ (event_of c.args.event) _ c.self.view_is c.if-self.false (sym c.is_strange.ensures ∙ c.if-is_strange.false) d in
    record { kept = kept_on _ _ (event_of c.args.event) _ c.event_fits.ensures c.requires.kept g; book = g.0; reply = g.1 }
