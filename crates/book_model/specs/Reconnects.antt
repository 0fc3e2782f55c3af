-- What a Reconnect promises, whatever happens then.
use Rattle.std.specs.Prelude.{◌≡◌, ◌≢◌, ℕ, ◌<◌, List, [], ◌∷◌}
use Rattle.session_values.specs.State.{StartKeyOf}
use Rattle.book_model.specs.Book.{Book}
use Rattle.book_model.specs.Kept.{FitsLimits, Kept}
use Rattle.book_model.specs.Outcomes.{Event, apply, apply_return}
use Rattle.book_model.specs.Outcomes.Change.{Reconnect}
use Rattle.book_model.specs.Outcomes.Event.{Take, Makes}
use Rattle.book_model.specs.declared.events.Reply.TheVariants.{Lend, Done}

-- the book after these events
abbrev pub after : Book → List Event → Book
after b [] = b
after b (e ∷ es) = after (apply b e).book es

-- new limits fit, too
abbrev pub AllFit : List Event → Type 0
AllFit [] = Unit {0}
AllFit (e ∷ es) = FitsLimits e × AllFit es

-- No link that was there, lent or idle, is lent again: its number is below that of the next.
abbrev pub NeverLentAgain : Type 0
NeverLentAgain = (b : Book) (es : List Event) (client link : ℕ) → Kept b → AllFit es → (apply b (Makes Reconnect)).reply ≡ Done → link < b.next_link → (apply (after (apply b (Makes Reconnect)).book es) (Take client)).reply ≢ Lend link

-- Nor is it kept where it comes back.
abbrev pub NeverKeptAgain : Type 0
NeverKeptAgain = (b : Book) (es : List Event) (link : ℕ) (key : StartKeyOf) (started_at : ℕ) → Kept b → AllFit es → (apply b (Makes Reconnect)).reply ≡ Done → link < b.next_link → (apply_return (after (apply b (Makes Reconnect)).book es) link key started_at).reply ≢ Done
