-- The kinds that an event may be of, by its replies.
use Rattle.std.specs.Prelude.{Option}
use Rattle.message_view.specs.declared.refusal.Refusal.TheVariants.{ShuttingDown}
use Rattle.book_model.specs.Book.{Book}
use Rattle.book_model.specs.Outcomes.{Event, kind_of}
use Rattle.book_model.specs.declared.counts.Kind.{Kind}
use Rattle.book_model.specs.declared.events.Reply.{Reply}
use Rattle.book_model.specs.declared.events.Reply.TheVariants.{Queued, Refuse, Done, Stranger, Nobody}
use Rattle.book_register.specs.declared.deciding.Kinds.{Kinds}

-- any refusal, any number in the queue, that it is done, that nobody was found, and any other reply give one kind each
abbrev pub kinds_of : Book → Event → Kinds
kinds_of b e = record { refused = kind_of b e (Refuse ShuttingDown); queued = kind_of b e (Queued 0); done = kind_of b e Done; nobody = kind_of b e Nobody; other = kind_of b e Stranger }

abbrev pub kind_in : Kinds → Reply → Option Kind
kind_in kinds (Refuse refusal) = kinds.refused
kind_in kinds (Queued n) = kinds.queued
kind_in kinds Done = kinds.done
kind_in kinds Nobody = kinds.nobody
kind_in kinds _ = kinds.other
