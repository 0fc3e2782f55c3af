-- What a book shows of itself.
use Rattle.std.specs.Prelude.{ℕ, Bool, true, List, Option, None, Some, not, ◌&&◌, ◌||◌, bytes_eq}
use Rattle.std.specs.List.{list_any}
use Rattle.book_model.specs.Book.{Book, Client, Limits, Link, Ticket, is_fresh}
use Rattle.book_model.specs.declared.counts.Counts.{Counts}

-- all but the leases and the numbers that come next
pub record View : Type 0 where
  pub clients : List Client
  pub tickets : List Ticket
  pub lent : List Link
  pub idle : List Link
  pub clock : ℕ
  pub limits : Limits
  pub is_paused : Bool
  pub is_shut : Bool
  pub fresh_from : ℕ
  pub decisions : ℕ
  pub counts : Counts
  pub starts : ℕ
  pub reuses : ℕ
  pub evictions : ℕ
  pub losses : ℕ

abbrev pub view_of : Book → View
view_of b = record { clients = b.clients; tickets = b.tickets; lent = b.lent; idle = b.idle; clock = b.clock; limits = b.limits; is_paused = b.is_paused; is_shut = b.is_shut; fresh_from = b.fresh_from; decisions = b.decisions; counts = b.counts; starts = b.starts; reuses = b.reuses; evictions = b.evictions; losses = b.losses }

-- ---- links that aren't lent again, to a database, where one is named

abbrev pub is_of_database : Option (List ℕ) → Link → Bool
is_of_database None link = true
is_of_database (Some name) link = bytes_eq name link.key.row

abbrev pub is_left_over : ℕ → Option (List ℕ) → Link → Bool
is_left_over fresh_from database link = not (is_fresh fresh_from link) && is_of_database database link

abbrev pub has_stale : View → Option (List ℕ) → Bool
has_stale v database = list_any (is_left_over v.fresh_from database) v.lent || list_any (is_left_over v.fresh_from database) v.idle
