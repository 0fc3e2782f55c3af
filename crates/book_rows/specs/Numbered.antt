-- The numbers of tickets and links, in slots of which some are empty.
use Rattle.std.specs.Prelude.{ℕ, Bool, false, cond, Option, Some, None}
use Rattle.session_values.specs.State.{StartKeyOf}
use Rattle.start_keys.specs.Keys.{same_key}
use Rattle.book_model.specs.Book.{Link, Ticket}
use Rattle.numbered_rows.specs.Numbered.{row_of}
use Rattle.book_rows.specs.Waiting.{client_of}

abbrev pub number_of : Option Link → Option ℕ
number_of None = None
number_of (Some link) = Some link.number

-- of what is in a slot
abbrev pub number_in : Option (Option Link) → Option ℕ
number_in slot = number_of (row_of slot)

abbrev pub client_in : Option (Option Ticket) → Option ℕ
client_in slot = client_of (row_of slot)

-- the link in a slot, where it is of this key, or else the last one before
abbrev pub last_with : StartKeyOf → Option Link → Option ℕ → Option ℕ
last_with key None last = last
last_with key (Some link) last = cond (same_key link.key key) (Some link.number) last

-- whether a link is there, and of this key
abbrev pub is_of_key : StartKeyOf → Option Link → Bool
is_of_key key None = false
is_of_key key (Some link) = same_key link.key key
