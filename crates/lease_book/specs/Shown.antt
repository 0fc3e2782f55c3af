-- What is shown of the decisions that are kept: of a key its process id alone, never its secret.
use Rattle.std.specs.Prelude.{◌≡◌, ℕ, suc, List, [], ◌∷◌, codes}
use Rattle.message_view.specs.declared.refusal.Refusal.{Refusal}
use Rattle.message_view.specs.declared.refusal.Refusal.TheVariants.{TooManyClients, UnsupportedProtocol, MalformedClientMessage, UnsupportedParameter, WaitedTooLong, ServerFailed, ServerNotReached, ShuttingDown, OutOfMemory, ClientMessageTooLong, MalformedServerMessage, LastDecision}
use Rattle.message_view.specs.declared.views.KeyView.{KeyView}
use Rattle.book_model.specs.Book.{places_beyond}
use Rattle.book_model.specs.Outcomes.{Change, Event}
use Rattle.book_model.specs.Outcomes.Change.{NewLimits, Pause, Resume, Shutdown, Reconnect}
use Rattle.book_model.specs.Outcomes.Event.{Arrive, Ask, Take, GiveBack, Lost, StartFailed, Leave, Tick, Makes, Keyed, Cancel, EndLease, HungUp}
use Rattle.book_model.specs.Replay.{Decision, History}
use Rattle.book_model.specs.declared.events.Reply.{Reply}
use Rattle.book_model.specs.declared.events.Reply.TheVariants.{Arrived, Queued, Lend, Start, Close, Refuse, Done, Stranger, Strike, Nobody, Reset, Dispose}
use Rattle.pool_figures.specs.declared.decisions.DecisionSeen.{DecisionSeen}
use Rattle.lease_book.specs.declared.event_kinds.EventKind.{EventKind}
use Rattle.lease_book.specs.declared.event_kinds.EventKind.TheVariants as kind

-- its number and pass; the event, and the number that it names; the reply, and the number that that names
pub record Shown : Type 0 where
  pub number : ℕ
  pub pass : ℕ
  pub event : List ℕ
  pub names : ℕ
  pub reply : List ℕ
  pub answers : ℕ

-- as the program says it
unfoldable pub as_shown : DecisionSeen → Shown
as_shown d = record { number = d.number; pass = d.pass; event = d.event.now; names = d.of; reply = d.reply.now; answers = d.to }

-- what events of a kind are called
abbrev pub kind_name : EventKind → List ℕ
kind_name kind.Arrive = codes "arrive"
kind_name kind.Ask = codes "ask"
kind_name kind.Take = codes "take"
kind_name kind.GiveBack = codes "give_back"
kind_name kind.Lost = codes "lost"
kind_name kind.StartFailed = codes "start_failed"
kind_name kind.Leave = codes "leave"
kind_name kind.Tick = codes "tick"
kind_name kind.Limits = codes "limits"
kind_name kind.Pause = codes "pause"
kind_name kind.Resume = codes "resume"
kind_name kind.Shutdown = codes "shutdown"
kind_name kind.Reconnect = codes "reconnect"
kind_name kind.Keyed = codes "keyed"
kind_name kind.Cancel = codes "cancel"
kind_name kind.EndLease = codes "end_lease"
kind_name kind.HungUp = codes "hung_up"

abbrev pub change_name : Change → List ℕ
change_name (NewLimits limits) = codes "limits"
change_name Pause = codes "pause"
change_name Resume = codes "resume"
change_name Shutdown = codes "shutdown"
change_name Reconnect = codes "reconnect"

abbrev pub event_name : Event → List ℕ
event_name (Arrive beyond) = codes "arrive"
event_name (Ask client key) = codes "ask"
event_name (Take client) = codes "take"
event_name (GiveBack link) = codes "give_back"
event_name (Lost link) = codes "lost"
event_name (StartFailed link) = codes "start_failed"
event_name (Leave client) = codes "leave"
event_name (Tick now) = codes "tick"
event_name (Makes change) = change_name change
event_name (Keyed link client server) = codes "keyed"
event_name (Cancel client) = codes "cancel"
event_name (EndLease link) = codes "end_lease"
event_name (HungUp link) = codes "hung_up"

-- of who comes, its places beyond the limit; of who asks for a cancel, its process id
abbrev pub event_number : Event → ℕ
event_number (Arrive beyond) = places_beyond beyond
event_number (Ask client key) = client
event_number (Take client) = client
event_number (GiveBack link) = link
event_number (Lost link) = link
event_number (StartFailed link) = link
event_number (Leave client) = client
event_number (Tick now) = now
event_number (Keyed link client server) = link
event_number (Cancel client) = client.pid
event_number (EndLease link) = link
event_number (HungUp link) = link
event_number _ = 0

abbrev pub reply_name : Reply → List ℕ
reply_name (Arrived client) = codes "arrived"
reply_name (Queued before) = codes "queued"
reply_name (Lend link) = codes "lend"
reply_name (Start link started_at evicted) = codes "start"
reply_name (Close link) = codes "close"
reply_name (Refuse refusal) = codes "refuse"
reply_name Done = codes "done"
reply_name Stranger = codes "stranger"
reply_name (Strike link server) = codes "strike"
reply_name Nobody = codes "nobody"
reply_name Reset = codes "reset"
reply_name Dispose = codes "dispose"

-- 1 for P1, and so on
abbrev pub refusal_number : Refusal → ℕ
refusal_number TooManyClients = 1
refusal_number UnsupportedProtocol = 2
refusal_number MalformedClientMessage = 3
refusal_number UnsupportedParameter = 4
refusal_number WaitedTooLong = 5
refusal_number ServerFailed = 6
refusal_number ServerNotReached = 7
refusal_number ShuttingDown = 8
refusal_number OutOfMemory = 9
refusal_number ClientMessageTooLong = 10
refusal_number MalformedServerMessage = 11
refusal_number LastDecision = 12

abbrev pub reply_number : Reply → ℕ
reply_number (Arrived client) = client
reply_number (Queued before) = before
reply_number (Lend link) = link
reply_number (Start link started_at evicted) = link
reply_number (Close link) = link
reply_number (Refuse refusal) = refusal_number refusal
reply_number (Strike link server) = link
reply_number _ = 0

unfoldable pub shown_of : ℕ → Decision → Shown
shown_of n d = record { number = n; pass = d.pass; event = event_name d.event; names = event_number d.event; reply = reply_name d.reply; answers = reply_number d.reply }

-- numbered from this one on
abbrev pub shown_from : ℕ → List Decision → List Shown
shown_from n [] = []
shown_from n (d ∷ ds) = shown_of n d ∷ shown_from (suc n) ds

-- the kept decisions, behind those of the base
abbrev pub decisions_shown : History → List Shown
decisions_shown h = shown_from (suc h.base.decisions) h.kept

-- ---- no secret is shown

abbrev pub without_secret : KeyView → KeyView
without_secret word = record word { secret = 0 }

abbrev pub event_without_secrets : Event → Event
event_without_secrets (Keyed link client server) = Keyed link (without_secret client) (without_secret server)
event_without_secrets (Cancel client) = Cancel (without_secret client)
event_without_secrets e = e

abbrev pub reply_without_secrets : Reply → Reply
reply_without_secrets (Strike link server) = Strike link (without_secret server)
reply_without_secrets r = r

-- a decision is shown as if every secret of it were 0
abbrev pub SecretsStayHidden : Type 0
SecretsStayHidden = (n : ℕ) (d : Decision) → shown_of n d ≡ shown_of n (record d { event = event_without_secrets d.event; reply = reply_without_secrets d.reply })
