use Rattle.std.proofs.Common.{◌≡◌, ◌∙◌, ℕ, Option, ap, refl, sym, subst}
use Rattle.std.specs.Prelude.{nat_lt}
use Rattle.book_model.specs.Book.{Book}
use Rattle.book_model.specs.Events.{event_of}
use Rattle.book_model.specs.Outcomes.{Answer, apply}
use Rattle.book_model.specs.Replay.{noted_of}
use Rattle.book_model.specs.declared.events.Reply.{Reply}
use Rattle.lease_book.specs.Links.{BookOf, StrikesInPlace, answered, found, goes_out, left}
use Rattle.lease_book.proofs.Holding.{holds_after, named_after, once_idle}
use Rattle.lease_book.proofs.Kept.{leads_on, noted_on}
use Rattle.lease_book.proofs.Plain.{is_plain, no_return}
use Rattle.lease_book.proofs.Striking.{may_strike, place_before}
use Rattle.lease_book.proofs.book.Book.apply.Goals as goal

pub take-link-requires : goal.take-link-requires
take-link-requires g c = record { once = once_idle c.self.inside.idle c.self.inside.lists c.self.invariant.0 }

pub reply_with-requires : goal.reply_with-requires
reply_with-requires g c =
    let e = event_of c.in-Plain.plain in
    record {
      number = named_after c.self.inside.idle c.self.inside.lists e c.apply-reply.result c.take-link.result c.self.invariant.0 (no_return c.in-Plain.plain) c.apply-reply.ensures.reply (c.take-link.ensures.found ∙ ap (λ (o : Option ℕ). found o c.self.inside.idle) c.goes_out.ensures);
      kept = c.apply-reply.ensures.kept;
      place = may_strike c.self.inside.lists c.apply-reply.new.self c.apply-reply.new.self e c.apply-reply.result refl c.apply-reply.ensures.book c.apply-reply.ensures.reply;
    }

pub invariant_of-self : goal.invariant_of-self
invariant_of-self g c =
    let b = c.self.inside.lists in
    let h = c.self.inside.history in
    let e = event_of c.in-Plain.plain in
    let noted : c.note.new.self ≡ noted_of b c.args.pass e h =
    noted_on h c.note.new.self b c.apply-reply.new.self c.args.pass e c.of-event.result c.apply-reply.result (nat_lt c.decisions-before.result c.decisions.result) c.apply-reply.ensures.book c.apply-reply.ensures.reply
    c.of-event.ensures (ap (λ (x : ℕ). nat_lt x c.decisions.result) c.decisions-before.ensures ∙ ap (nat_lt b.decisions) c.decisions.ensures) c.note.ensures in (
      holds_after c.self.inside.idle c.take-link.new.self b c.apply-reply.new.self e c.apply-reply.result c.self.invariant.0 (no_return c.in-Plain.plain) c.apply-reply.ensures.book c.apply-reply.ensures.reply c.apply-reply.ensures.kept (c.take-link.ensures.left ∙ ap (λ (o : Option ℕ). left o c.self.inside.idle) c.goes_out.ensures),
      leads_on h c.note.new.self b c.apply-reply.new.self c.args.pass e c.self.invariant.1 c.apply-reply.ensures.book noted,
    )

pub returns-in-Plain : goal.returns-in-Plain
returns-in-Plain g c =
    let b = c.self.inside.lists in
    let h = c.self.inside.history in
    let idle = c.self.inside.idle in
    let B = c.args.self.now.lists in
    let e = event_of c.in-Plain.plain in
    let r = c.apply-reply.result in
    let p = is_plain c.args.event c.in-Plain.plain c.in-Plain.is in
    let its_lists : b ≡ B = ap (λ (x : BookOf). x.lists) c.self.view_is in
    let answer : apply b e ≡ answered B c.args.event = ap (λ (x : Book). apply x e) its_lists ∙ sym (p.answered_is B) in
    let told : r ≡ (answered B c.args.event).reply = c.apply-reply.ensures.reply ∙ ap (λ (a : Answer). a.reply) answer in
    let noted : c.note.new.self ≡ noted_of b c.args.pass e h =
    noted_on h c.note.new.self b c.apply-reply.new.self c.args.pass e c.of-event.result r (nat_lt c.decisions-before.result c.decisions.result) c.apply-reply.ensures.book c.apply-reply.ensures.reply
    c.of-event.ensures (ap (λ (x : ℕ). nat_lt x c.decisions.result) c.decisions-before.ensures ∙ ap (nat_lt b.decisions) c.decisions.ensures) c.note.ensures in
    record {
      kept = c.apply-reply.ensures.kept;
      lists = c.apply-reply.ensures.book ∙ ap (λ (a : Answer). a.book) answer;
      history = noted ∙ (ap (λ (x : BookOf). noted_of x.lists c.args.pass e x.history) c.self.view_is ∙ sym (p.history_is B c.args.pass c.args.self.now.history));
      reply = c.reply_with.ensures.reply ∙ told;
      place = subst (λ (x : Book). StrikesInPlace x c.reply_with.result) its_lists (place_before b c.apply-reply.new.self c.apply-reply.new.self e r c.reply_with.result refl c.apply-reply.ensures.book c.apply-reply.ensures.reply c.reply_with.ensures.reply c.reply_with.ensures.place);
      idle = c.take-link.ensures.left ∙ (ap (λ (o : Option ℕ). left o idle) c.goes_out.ensures ∙ (ap (λ (x : Reply). left (goes_out x) idle) told ∙ (ap (λ (x : BookOf). left (goes_out (answered B c.args.event).reply) x.idle) c.self.view_is ∙ sym (p.idle_is _ c.args.self.now.idle))));
      handed = c.reply_with.ensures.link ∙ (c.take-link.ensures.found ∙ (ap (λ (o : Option ℕ). found o idle) c.goes_out.ensures ∙ (ap (λ (x : Reply). found (goes_out x) idle) told ∙ (ap (λ (x : BookOf). found (goes_out (answered B c.args.event).reply) x.idle) c.self.view_is ∙ sym (p.handed_is _ c.args.self.now.idle)))));
    }
