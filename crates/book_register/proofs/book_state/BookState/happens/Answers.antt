use Rattle.std.proofs.Common.{◌≡◌, false, subst}
use Rattle.book_model.specs.Events.{event_of}
use Rattle.book_model.specs.Outcomes.{is_strange}
use Rattle.book_model.specs.declared.events.Event.{Event}
use Rattle.book_register.proofs.Decisions.{asker_has_room, lease_has_room}
use Rattle.book_register.proofs.Takes.{may_start}
use Rattle.book_register.proofs.book_state.BookState.happens.Goals as goal

pub asks-requires-clause-room : goal.asks-requires-clause-room
asks-requires-clause-room c = asker_has_room c.args.self.now.clients c.args.self.now.tickets c.args.self.now.next_client c.in-Ask.client c.requires.kept.clients (subst (λ (e : Event). is_strange c.args.self.now (event_of e) ≡ false) c.in-Ask.is c.requires.known)

pub keys-requires : goal.keys-requires
keys-requires c = record { room = lease_has_room c.args.self.now c.in-Keyed.link c.requires.kept (subst (λ (e : Event). is_strange c.args.self.now (event_of e) ≡ false) c.in-Keyed.is c.requires.known) }

pub changes-requires : goal.changes-requires
changes-requires c = record { next = (may_start c.args.self.now c.requires.kept c.requires.more).1 }
