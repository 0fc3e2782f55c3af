-- Events and replies that carry links, and what becomes of the links that are idle.
use Rattle.std.specs.Prelude.{◌≡◌, ℕ, Bool, true, false, List, [], ◌∷◌, ◌++◌, Option, Some, None, not, cond, ◌==◌, map, filter, find, is_some}
use Rattle.session_values.specs.State.{StartKeyOf}
use Rattle.link_run.specs.Links.{LinkView}
use Rattle.book_model.specs.Book.{Book, Link, is_link}
use Rattle.book_model.specs.Events.{event_of}
use Rattle.book_model.specs.Outcomes.{Answer, apply, apply_return, is_started_as}
use Rattle.book_model.specs.Outcomes.{Event}
use Rattle.book_model.specs.Outcomes.Event.{GiveBack}
use Rattle.book_model.specs.Places.{IsPlaceOf}
use Rattle.book_model.specs.Replay.{History, noted_of}
use Rattle.book_model.specs.declared.events.Reply.{Reply}
use Rattle.book_model.specs.declared.events.Reply.TheVariants as told
use Rattle.book_model.specs.Kept.{Kept}
use Rattle.lease_book.specs.declared.events.BookEvent.{BookEvent}
use Rattle.lease_book.specs.declared.events.BookEvent.TheVariants as event
use Rattle.lease_book.specs.declared.events.BookReply.{BookReply}
use Rattle.lease_book.specs.declared.events.BookReply.TheVariants as reply

-- the lists and their history, and the idle links in the order of their return
pub record BookOf : Type 0 where
  pub lists : Book
  pub history : History
  pub idle : List LinkView

-- ---- the links that are idle

-- what a link was started as
pub record Started : Type 0 where
  pub number : ℕ
  pub key : StartKeyOf
  pub started_at : ℕ

abbrev pub started : LinkView → Started
started l = record { number = l.number; key = l.key; started_at = l.started_at }

abbrev pub listed : Link → Started
listed l = record { number = l.number; key = l.key; started_at = l.started_at }

-- the links are those of the idle list, in its order
pub record HoldsLinks (idle : List LinkView) (lists : Book) : Type 0 where
  pub same : map started idle ≡ map listed lists.idle
  pub kept : Kept lists

abbrev pub is_numbered : ℕ → LinkView → Bool
is_numbered n l = l.number == n

-- the links without that of this number, and that link
abbrev pub left : Option ℕ → List LinkView → List LinkView
left None links = links
left (Some n) links = filter (λ l. not (is_numbered n l)) links

abbrev pub found : Option ℕ → List LinkView → Option LinkView
found None links = None
found (Some n) links = find (is_numbered n) links

-- ---- events and replies by numbers

-- the number of the idle link that goes out with a reply
abbrev pub goes_out : Reply → Option ℕ
goes_out (told.Lend n) = Some n
goes_out (told.Close n) = Some n
goes_out (told.Start n started_at evicted) = evicted
goes_out _ = None

abbrev pub is_done : Reply → Bool
is_done told.Done = true
is_done _ = false

-- a link that is given back is kept where the reply is Done, and else handed back
abbrev pub idle_with : LinkView → Reply → List LinkView → List LinkView
idle_with l r idle = cond (is_done r) (idle ++ l ∷ []) idle

abbrev pub handed_back : LinkView → Reply → Option LinkView
handed_back l r = cond (is_done r) None (Some l)

-- the replies to a link that is given back and isn't kept
abbrev pub may_hand_back : ℕ → Reply → Bool
may_hand_back n (told.Close m) = m == n
may_hand_back n (told.Refuse refusal) = true
may_hand_back n told.Stranger = true
may_hand_back n _ = false

-- a link comes with this event
abbrev pub is_return : Event → Bool
is_return (GiveBack n) = true
is_return _ = false

abbrev pub number_of : Option LinkView → Option ℕ
number_of None = None
number_of (Some l) = Some l.number

-- ---- where a strike goes

-- the link is there, and its start key has a host
abbrev pub has_place : Option Link → Bool
has_place None = false
has_place (Some link) = is_some link.key.host

-- the link of a strike is lent, and has a place
abbrev pub can_strike : Book → Reply → Bool
can_strike b (told.Strike n server) = has_place (find (is_link n) b.lent)
can_strike b _ = true

module _ {E : Type 0} where
  abbrev pub plain : BookEvent E → Event
  plain (event.GiveBack link) = GiveBack link.number
  plain (event.Plain e) = event_of e

  abbrev pub reply_of : BookReply E → Reply
  reply_of (reply.Client n) = told.Arrived n
  reply_of (reply.Queued n) = told.Queued n
  reply_of (reply.Lend l) = told.Lend l.number
  reply_of (reply.Start n started_at evicted) = told.Start n started_at (number_of evicted)
  reply_of (reply.Close l) = told.Close l.number
  reply_of (reply.Refuse refusal back) = told.Refuse refusal
  reply_of reply.Done = told.Done
  reply_of (reply.Stranger back) = told.Stranger
  reply_of (reply.Strike n server host port) = told.Strike n server
  reply_of reply.Nobody = told.Nobody
  reply_of reply.Reset = told.Reset
  reply_of reply.Dispose = told.Dispose

  -- a strike is at the place of its link, which is lent
  abbrev pub StrikesInPlace : Book → BookReply E → Type 0
  StrikesInPlace b (reply.Strike n server host port) = IsPlaceOf b n host port
  StrikesInPlace b _ = Unit {0}

  -- the link that comes with a reply
  abbrev pub handed : BookReply E → Option LinkView
  handed (reply.Lend l) = Some l
  handed (reply.Start n started_at evicted) = evicted
  handed (reply.Close l) = Some l
  handed (reply.Refuse refusal back) = back
  handed (reply.Stranger back) = back
  handed _ = None

  -- ---- what an event does

  -- a link that is given back is one that was started as this
  abbrev pub is_own : Book → BookEvent E → Bool
  is_own b (event.GiveBack l) = is_started_as l.key l.started_at (find (is_link l.number) b.lent)
  is_own b (event.Plain e) = true

  abbrev pub answered : Book → BookEvent E → Answer
  answered b (event.GiveBack l) = apply_return b l.number l.key l.started_at
  answered b (event.Plain e) = apply b (event_of e)

  abbrev pub history_after : Book → ℕ → BookEvent E → History → History
  history_after b pass e h = cond (is_own b e) (noted_of b pass (plain e) h) h

  -- the idle links after an event with this reply, and the link that comes with the reply
  abbrev pub idle_after : BookEvent E → Reply → List LinkView → List LinkView
  idle_after (event.GiveBack l) r idle = idle_with l r idle
  idle_after (event.Plain e) r idle = left (goes_out r) idle

  abbrev pub handed_after : BookEvent E → Reply → List LinkView → Option LinkView
  handed_after (event.GiveBack l) r idle = handed_back l r
  handed_after (event.Plain e) r idle = found (goes_out r) idle
