-- What is changed for all: the settings, and nothing else of the book.
use Rattle.std.proofs.Common.{◌≡◌, ℕ, Bool, true, false, refl}
use Rattle.book_model.specs.Book.{Book, Limits}
use Rattle.book_model.specs.Kept.{FitsLimits, Kept, KeptFresh, KeptLimits}
use Rattle.book_model.specs.Outcomes.{Change, changed, kind_of_change, raised}
use Rattle.book_model.specs.Outcomes.Change.{NewLimits, Pause, Resume, Shutdown, Reconnect}
use Rattle.book_model.specs.Outcomes.Event.{Makes}
use Rattle.book_model.specs.declared.counts.Counts.{Counts}
use Rattle.book_model.proofs.KeepingCounts.{telling}
use Rattle.book_model.proofs.KeepingFresh.{all_renewed}

-- the book with these settings
abbrev pub settled : Book → Limits → Bool → Bool → ℕ → Book
settled b limits is_paused is_shut fresh_from = record b { limits = limits; is_paused = is_paused; is_shut = is_shut; fresh_from = fresh_from }

-- what holds of the book with any settings holds of the changed one
pub with_any_settings : (P : Book → Type 0) (change : Change) (b : Book) → ((limits : Limits) (is_paused is_shut : Bool) (fresh_from : ℕ) → P (settled b limits is_paused is_shut fresh_from)) → P (changed change b)
with_any_settings P (NewLimits limits) b h = h limits b.is_paused b.is_shut b.fresh_from
with_any_settings P Pause b h = h b.limits true b.is_shut b.fresh_from
with_any_settings P Resume b h = h b.limits false b.is_shut b.fresh_from
with_any_settings P Shutdown b h = h b.limits b.is_paused true b.fresh_from
with_any_settings P Reconnect b h = h b.limits b.is_paused b.is_shut b.next_link

-- the counts that others depend on don't speak of it
pub change_untold : (change : Change) (c : Counts) → telling (raised (kind_of_change change) c) ≡ telling c
change_untold (NewLimits limits) c = refl
change_untold _ c = refl

pub change_fresh : (b : Book) (change : Change) → Kept b → KeptFresh b.idle (changed change b).fresh_from b.next_link
change_fresh b Reconnect h = all_renewed b.lent b.idle b.next_link h.links
change_fresh b _ h = h.fresh

pub change_fits : (b : Book) (change : Change) → FitsLimits (Makes change) → Kept b → KeptLimits (changed change b).limits
change_fits b (NewLimits limits) fits h = fits
change_fits b _ fits h = h.limits
