use Rattle.std.proofs.Common.{rules, ◌≡◌, ◌∙◌, ℕ, true, false, ap, find}
use Rattle.std.specs.Prelude.{cond, nat_lt}
use Rattle.book_model.specs.Book.{is_link}
use Rattle.book_model.specs.Outcomes.{Event, apply_return, is_started_as}
use Rattle.book_model.specs.Outcomes.Event.{GiveBack}
use Rattle.book_model.specs.Replay.{noted as noted_more, noted_of}
use Rattle.lease_book.specs.Links.{BookOf, is_done}
use Rattle.lease_book.proofs.Kept.{leads_back, noted_back}
use Rattle.lease_book.proofs.Returns.{has_place, holds_one_more, may_be_handed, still_holds}
use Rattle.lease_book.proofs.book.Book.give_back.Goals as goal

pub push-requires : goal.push-requires
push-requires g c =
    let b = c.self.inside.lists in
    let l = c.args.link in
    let new : c.apply_return-reply.new.self ≡ (apply_return b l.number l.key l.started_at).book = search rules in
    let told : c.apply_return-reply.result ≡ (apply_return b l.number l.key l.started_at).reply = search rules in
    let done : is_done c.apply_return-reply.result ≡ true = search rules in
    has_place c.self.inside.idle b c.apply_return-reply.new.self l c.apply_return-reply.result c.self.invariant.0 new told done (λ was. c.apply_return-reply.ensures.kept)

pub invariant_of-self : goal.invariant_of-self
invariant_of-self g c =
    let b = c.self.inside.lists in
    let l = c.args.link in
    let new : c.apply_return-reply.new.self ≡ (apply_return b l.number l.key l.started_at).book = search rules in
    let told : c.apply_return-reply.result ≡ (apply_return b l.number l.key l.started_at).reply = search rules in
    let done : is_done c.apply_return-reply.result ≡ true = search rules in
    let noted : c.note.new.self ≡ cond (is_started_as l.key l.started_at (find (is_link l.number) b.lent)) (noted_of b c.args.pass (GiveBack l.number) c.self.inside.history) c.self.inside.history =
    noted_back c.self.inside.history c.note.new.self b c.apply_return-reply.new.self c.args.pass l.number l.key l.started_at c.apply_return-reply.result (nat_lt c.decisions-before.result c.decisions.result) new told
    (ap (λ (x : ℕ). nat_lt x c.decisions.result) c.decisions-before.ensures ∙ ap (nat_lt b.decisions) c.decisions.ensures)
    (c.note.ensures ∙ ap (λ (x : Event). cond (nat_lt c.decisions-before.result c.decisions.result) (noted_more c.self.inside.history (record { pass = c.args.pass; event = x; reply = c.apply_return-reply.result })) c.self.inside.history) (c.returned-event.ensures ∙ ap (λ (n : ℕ). GiveBack n) c.number-number.ensures)) in
    (holds_one_more c.self.inside.idle c.push.new.self b c.apply_return-reply.new.self l c.apply_return-reply.result c.self.invariant.0 new told done (λ was. c.apply_return-reply.ensures.kept) c.push.ensures, leads_back c.self.inside.history c.note.new.self b c.apply_return-reply.new.self c.args.pass l.number l.key l.started_at c.self.invariant.1 new noted)

pub invariant_of-self-else-is_done : goal.invariant_of-self-else-is_done
invariant_of-self-else-is_done g c =
    let b = c.self.inside.lists in
    let l = c.args.link in
    let new : c.apply_return-reply.new.self ≡ (apply_return b l.number l.key l.started_at).book = search rules in
    let told : c.apply_return-reply.result ≡ (apply_return b l.number l.key l.started_at).reply = search rules in
    let not_done : is_done c.apply_return-reply.result ≡ false = search rules in
    let noted : c.note.new.self ≡ cond (is_started_as l.key l.started_at (find (is_link l.number) b.lent)) (noted_of b c.args.pass (GiveBack l.number) c.self.inside.history) c.self.inside.history =
    noted_back c.self.inside.history c.note.new.self b c.apply_return-reply.new.self c.args.pass l.number l.key l.started_at c.apply_return-reply.result (nat_lt c.decisions-before.result c.decisions.result) new told
    (ap (λ (x : ℕ). nat_lt x c.decisions.result) c.decisions-before.ensures ∙ ap (nat_lt b.decisions) c.decisions.ensures)
    (c.note.ensures ∙ ap (λ (x : Event). cond (nat_lt c.decisions-before.result c.decisions.result) (noted_more c.self.inside.history (record { pass = c.args.pass; event = x; reply = c.apply_return-reply.result })) c.self.inside.history) (c.returned-event.ensures ∙ ap (λ (n : ℕ). GiveBack n) c.number-number.ensures)) in
    (still_holds c.self.inside.idle b c.apply_return-reply.new.self l c.apply_return-reply.result c.self.invariant.0 new told not_done (λ was. c.apply_return-reply.ensures.kept), leads_back c.self.inside.history c.note.new.self b c.apply_return-reply.new.self c.args.pass l.number l.key l.started_at c.self.invariant.1 new noted)

pub back_with-requires : goal.back_with-requires
back_with-requires g c =
    let b = c.self.inside.lists in
    let l = c.args.link in
    let told : c.apply_return-reply.result ≡ (apply_return b l.number l.key l.started_at).reply = search rules in
    let not_done : is_done c.apply_return-reply.result ≡ false = search rules in
    may_be_handed c.self.inside.idle b l c.apply_return-reply.result c.self.invariant.0 told not_done

pub returns-then-is_done-clause-history : goal.returns-then-is_done-clause-history
returns-then-is_done-clause-history g c =
    let b = c.self.inside.lists in
    let l = c.args.link in
    let new : c.apply_return-reply.new.self ≡ (apply_return b l.number l.key l.started_at).book = search rules in
    let told : c.apply_return-reply.result ≡ (apply_return b l.number l.key l.started_at).reply = search rules in
    let noted : c.note.new.self ≡ cond (is_started_as l.key l.started_at (find (is_link l.number) b.lent)) (noted_of b c.args.pass (GiveBack l.number) c.self.inside.history) c.self.inside.history =
    noted_back c.self.inside.history c.note.new.self b c.apply_return-reply.new.self c.args.pass l.number l.key l.started_at c.apply_return-reply.result (nat_lt c.decisions-before.result c.decisions.result) new told
    (ap (λ (x : ℕ). nat_lt x c.decisions.result) c.decisions-before.ensures ∙ ap (nat_lt b.decisions) c.decisions.ensures)
    (c.note.ensures ∙ ap (λ (x : Event). cond (nat_lt c.decisions-before.result c.decisions.result) (noted_more c.self.inside.history (record { pass = c.args.pass; event = x; reply = c.apply_return-reply.result })) c.self.inside.history) (c.returned-event.ensures ∙ ap (λ (n : ℕ). GiveBack n) c.number-number.ensures)) in
    noted ∙ ap (λ (x : BookOf). cond (is_started_as l.key l.started_at (find (is_link l.number) x.lists.lent)) (noted_of x.lists c.args.pass (GiveBack l.number) x.history) x.history) c.self.view_is

pub returns-clause-history : goal.returns-clause-history
returns-clause-history g c =
    let b = c.self.inside.lists in
    let l = c.args.link in
    let new : c.apply_return-reply.new.self ≡ (apply_return b l.number l.key l.started_at).book = search rules in
    let told : c.apply_return-reply.result ≡ (apply_return b l.number l.key l.started_at).reply = search rules in
    let noted : c.note.new.self ≡ cond (is_started_as l.key l.started_at (find (is_link l.number) b.lent)) (noted_of b c.args.pass (GiveBack l.number) c.self.inside.history) c.self.inside.history =
    noted_back c.self.inside.history c.note.new.self b c.apply_return-reply.new.self c.args.pass l.number l.key l.started_at c.apply_return-reply.result (nat_lt c.decisions-before.result c.decisions.result) new told
    (ap (λ (x : ℕ). nat_lt x c.decisions.result) c.decisions-before.ensures ∙ ap (nat_lt b.decisions) c.decisions.ensures)
    (c.note.ensures ∙ ap (λ (x : Event). cond (nat_lt c.decisions-before.result c.decisions.result) (noted_more c.self.inside.history (record { pass = c.args.pass; event = x; reply = c.apply_return-reply.result })) c.self.inside.history) (c.returned-event.ensures ∙ ap (λ (n : ℕ). GiveBack n) c.number-number.ensures)) in
    noted ∙ ap (λ (x : BookOf). cond (is_started_as l.key l.started_at (find (is_link l.number) x.lists.lent)) (noted_of x.lists c.args.pass (GiveBack l.number) x.history) x.history) c.self.view_is
