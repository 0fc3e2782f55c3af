-- The decisions that are kept, and the lists that they lead to.
use Rattle.std.specs.Prelude.{◌≡◌, ℕ, Bool, true, false, List, [], ◌∷◌, ◌++◌, Option, Some, None, not, cond, ◌==◌, ◌&&◌, nat_lt, length, map}
use Rattle.book_model.specs.Book.{Book}
use Rattle.book_model.specs.Outcomes.{Event, apply, is_strange, kind_of, last_decision, outcome}
use Rattle.book_model.specs.declared.counts.Kind.{Kind}
use Rattle.book_model.specs.declared.events.Reply.{Reply}

-- an event that changed the book, with its reply, and the pass through which it came
pub record Decision : Type 0 where
  pub pass : ℕ
  pub event : Event
  pub reply : Reply

-- the lists after these decisions, and the replies that the definition gives to them
abbrev pub replayed : Book → List Decision → Book
replayed b [] = b
replayed b (d ∷ ds) = replayed (apply b d.event).book ds

abbrev pub replies : Book → List Decision → List Reply
replies b [] = []
replies b (d ∷ ds) = (apply b d.event).reply ∷ replies (apply b d.event).book ds

-- the kept decisions lead from the base to the lists, each with the reply that it had
pub record Replays (base : Book) (kept : List Decision) (lists : Book) : Type 0 where
  pub lists_are : replayed base kept ≡ lists
  pub replies_are : replies base kept ≡ map (λ (d : Decision). d.reply) kept

-- ---- how many are kept

-- so many decisions at most
abbrev pub most_kept : ℕ
most_kept = 256

pub record History : Type 0 where
  pub base : Book
  pub kept : List Decision

-- the first of the kept decisions goes into the base
abbrev pub folded : Book → List Decision → History
folded base [] = record { base = base; kept = [] }
folded base (d ∷ ds) = record { base = (apply base d.event).book; kept = ds }

-- a decision more: it is kept, and where that is one too many, the first goes into the base
abbrev pub noted : History → Decision → History
noted h d = cond (nat_lt (length h.kept) most_kept) (record { base = h.base; kept = h.kept ++ d ∷ [] }) (folded h.base (h.kept ++ d ∷ []))

abbrev pub is_a_kind : Option Kind → Bool
is_a_kind None = false
is_a_kind (Some kind) = true

-- an event is a decision, where its number can be counted, it comes from nobody strange, and its outcome is of a kind
abbrev pub is_decision : Book → Event → Bool
is_decision b e = not (b.decisions == last_decision) && (not (is_strange b e) && is_a_kind (kind_of b e (outcome b e).reply))

-- the history after an event that came through this pass
abbrev pub noted_of : Book → ℕ → Event → History → History
noted_of b pass e h = cond (is_decision b e) (noted h (record { pass = pass; event = e; reply = (apply b e).reply })) h
