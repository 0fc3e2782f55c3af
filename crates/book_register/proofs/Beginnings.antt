-- What a register begins with, and that it stays in order.
use Rattle.std.proofs.Common.{◌≡◌, ℕ, ◌+◌, ◌≤◌, ◌<◌, true, length, nat_lt, sym, subst, arith, refl, ltb-true}
use Rattle.book_model.specs.Book.{Book, Limits, places_beyond}
use Rattle.book_model.specs.Outcomes.{Event, apply}
use Rattle.book_model.specs.declared.events.Beyond.{Beyond}
use Rattle.book_model.specs.declared.events.Beyond.TheVariants.{Nothing, Console, LocalConsole}
use Rattle.book_model.specs.declared.events.Reply.{Reply}
use Rattle.book_model.specs.declared.limits.TheConstants.{MAX_PRESENT}
use Rattle.book_register.specs.Choices.{Gives}
use Rattle.book_register.specs.Counted.{counted_book}
use Rattle.book_model.specs.Kept.{FitsLimits, Kept, KeptLimits}
use Rattle.book_model.proofs.Keeping.{applied_keeps}

pub counted_keeps : (limits : Limits) (n : ℕ) → KeptLimits limits → Kept (counted_book limits n)
counted_keeps limits n l = record {
  clients = record { fit = omega arith; once = λ n. omega arith; fresh = λ n k. refl; of_clients = λ n. omega arith };
  links = record { fit = omega arith; once = λ n. omega arith; fresh = λ n k. omega arith };
  fresh = record { next_too = omega arith; in_order = tt };
  leases = record { keyed = λ n. omega arith; marked = λ n. omega arith; ended = λ n. omega arith };
  counts = record { all = omega arith; clients = omega arith; links = omega arith; grants = omega arith; evicted = omega arith; losses = omega arith; lent = omega arith };
  limits = l;
}

pub kept_on : (b after : Book) (e : Event) (r : Reply) → FitsLimits e → Kept b → Gives after r (apply b e) → Kept after
kept_on b after e r fits kept given = subst Kept (sym given.0) (applied_keeps b e fits kept)

-- ---- a client comes

few_places : (beyond : Beyond) → places_beyond beyond ≤ 80
few_places Nothing = omega arith
few_places Console = omega arith
few_places LocalConsole = omega arith

pub may_come : (b : Book) (beyond : Beyond) → Kept b → nat_lt (length b.clients) (b.limits.max_clients + places_beyond beyond) ≡ true → length b.clients < MAX_PRESENT
may_come b beyond kept e = omega (arith, ltb-true _ _ e, few_places beyond, kept.limits.clients)
