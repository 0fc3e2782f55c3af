-- A talk under way, turn by turn.
use Rattle.std.specs.Prelude.{◌≡◌, ◌⊎◌, ℕ, ◌+◌, ◌≤◌, Bool, true, false, List, [], ◌++◌, length, Option, Some, None, Result, Ok, Err}
use Rattle.std.specs.List.{flat_map}
use Rattle.bytes.specs.Filled.{Filled}
use Rattle.frame_view.specs.Frames.{FrameOf, spelling}
use Rattle.message_view.specs.Bodies.{Text}
use Rattle.message_view.specs.declared.KeyWord.{KeyWord}
use Rattle.message_view.specs.declared.refusal.Refusal.{Refusal}
use Rattle.message_view.specs.declared.refusal.Refusal.TheVariants.{OutOfMemory}
use Rattle.ini_config.specs.declared.option_values.ConsoleStyle.{ConsoleStyle}
use Rattle.ini_config.specs.declared.option_values.Settings.{Settings}
use Rattle.book_model.specs.Book.{Book}
use Rattle.book_model.specs.Kept.{Kept}
use Rattle.book_register.specs.Views.{View, view_of}
use Rattle.pool_figures.specs.Seen.{SeenOf}
use Rattle.link_desk.specs.Counts.{AtMost, class_counts}
use Rattle.time_limits.specs.declared.TheConstants.{MAX_TURNS}
use Rattle.link_model.specs.Standing.{ClientFacts}
use Rattle.link_desk.specs.declared.answers.Changed.{Changed}
use Rattle.link_desk.specs.declared.answers.Changed.TheVariants as changed
use Rattle.console_core.specs.declared.commands.Action.{Action}
use Rattle.console_core.specs.declared.commands.Action.TheVariants.{Reload}
use Rattle.console_core.specs.Commands.{CommandOf, Await, command_of}
use Rattle.console_core.specs.Replies.{frames_of, not_allowed, reply_to}
use Rattle.console_core.specs.Messages.{Response, Frames, Answer, Leave}
use Rattle.monitor_core.specs.Replies as monitor
use Rattle.monitor_core.specs.Requests.{RequestOf, Own, Asks}
use Rattle.console_run.specs.declared.acting.Acted.{Acted}
use Rattle.console_run.specs.declared.acting.Acted.TheVariants as acted
use Rattle.console_run.specs.declared.answering.Answered.{Answered}
use Rattle.console_run.specs.declared.answering.Answered.TheVariants as answered
use Rattle.console_run.specs.declared.talk.Turn.{Turn}
use Rattle.console_run.specs.declared.talk.Turn.TheVariants as turn
use Rattle.console_run.specs.Passing.{Pass, after_action, after_doing, broken_by}
use Rattle.console_run.specs.Exchanges.{AreAnswered, Asker, Exchange, IsResponse, after_exchanges, asked_bytes, closing, drops_after, drops_behind, greeting, may_act, told_bytes}
use Rattle.console_run.specs.Talks.{IsClientOver, IsRefused, IsRefusedBy, Leaves, waits}

-- ---- what an action came to

abbrev pub acted_of : Changed → Acted
acted_of changed.Done = acted.Done
acted_of changed.Last = acted.Last

-- only that files are read again may be refused by a fault in one of them
abbrev pub HasActed : Acted → Action → Pass → Pass → Type 0
HasActed acted.Done a p q = q ≡ after_action a p
HasActed acted.Faulty Reload p q = q ≡ p
HasActed acted.Faulty a p q = ⊥
HasActed acted.Last a p q = q ≡ broken_by a p

-- ---- what a message came to

module _ {Z : Type 0} where
  abbrev pub told_of : Result Filled Z → Bool → Answered
  told_of (Ok reply) drops = answered.Told reply drops
  told_of (Err e) drops = answered.Refused OutOfMemory

-- the bytes of frames that answer it
pub record IsTold (answers : List FrameOf → Option Action → Type 0) (bytes : List ℕ) (p q : Pass) : Type 0 where
  pub told : List FrameOf
  pub does : Option Action
  pub answers_it : answers told does
  pub bytes_are : bytes ≡ flat_map spelling told
  pub pass : q ≡ after_doing does p

-- It is too early for the answer of a WAIT_CLOSE over some book, in which all that was made through the pass is counted.
pub record IsEarly (p : Pass) (database : Option Text) : Type 0 where
  pub book : Book
  pub kept : Kept book
  pub counted : AtMost p.counted.made (class_counts book.counts)
  pub early : closing (view_of book) database ≡ None

-- no other command waits, and none of who may but look
abbrev pub Waits : Asker → Pass → Option CommandOf → Type 0
Waits a p (Some (Await database)) = (may_act a ≡ true) × IsEarly p database
Waits a p command = ⊥

abbrev pub MayWait : Asker → Pass → Response → Type 0
MayWait a p (Answer text) = Waits a p (command_of text)
MayWait a p response = ⊥

-- where its answer may be for later: then nothing was done
abbrev pub HasAnswered : (List FrameOf → Option Action → Type 0) → (early : Type 0) → (drops : Bool) → Answered → Pass → Pass → Type 0
HasAnswered answers early drops (answered.Told reply dropping) p q = IsTold answers reply.items p q × (dropping ≡ drops)
HasAnswered answers early drops answered.NotYet p q = early × (q ≡ p)
HasAnswered answers early drops answered.Left p q = ⊥
HasAnswered answers early drops (answered.Refused r) p q = IsRefusedBy r p q

abbrev pub HasResponded : Asker → Response → Answered → Pass → Pass → Type 0
HasResponded a response answered.Left p q = (response ≡ Leave) × (q ≡ p)
HasResponded a response x p q = HasAnswered (IsResponse a p response) (MayWait a p response) (drops_after response) x p q

-- it was told that it may but look
abbrev pub IsNotAllowed : Answered → Type 0
IsNotAllowed (answered.Told reply dropping) = (reply.items ≡ flat_map spelling not_allowed) × (dropping ≡ false)
IsNotAllowed (answered.Refused r) = r ≡ OutOfMemory
IsNotAllowed x = ⊥

-- the bytes of a response's frames
abbrev pub IsSaid : Response → List ℕ → Type 0
IsSaid (Frames frames drops) bytes = bytes ≡ flat_map spelling frames
IsSaid _ bytes = Unit {0}

-- what a request is told that has nothing done
abbrev pub shown_by : View → SeenOf → Settings → RequestOf → List FrameOf
shown_by v known s (Own command) = frames_of (reply_to v s command)
shown_by v known s (Asks what) = monitor.frames_of (monitor.reply_to v known s what)

-- as `IsShown`, of what was read
pub record IsShownBy (s : Settings) (p : Pass) (request : RequestOf) (told : List FrameOf) : Type 0 where
  pub book : Book
  pub kept : Kept book
  pub counted : AtMost p.counted.made (class_counts book.counts)
  pub known : SeenOf
  pub told_is : told ≡ shown_by (view_of book) known s request

abbrev pub IsSeenBy : Settings → Pass → RequestOf → List FrameOf → Option Action → Type 0
IsSeenBy s p request told does = IsShownBy s p request told × (does ≡ None)

-- what has nothing done was answered so
pub record IsShownAs (s : Settings) (p : Pass) (request : RequestOf) (bytes : List ℕ) : Type 0 where
  pub told : List FrameOf
  pub shown : IsShownBy s p request told
  pub bytes_are : bytes ≡ flat_map spelling told

-- ---- a talk

-- the client's end, what is held of its messages, what it is told and not given yet, and whether messages are dropped
pub record TalkView : Type 0 where
  pub client : ClientFacts
  pub held : List ℕ
  pub unwritten : List ℕ
  pub drops : Bool

abbrev pub talk_view : ClientFacts → (held unwritten : List ℕ) → Bool → TalkView
talk_view client held unwritten drops = record { client = client; held = held; unwritten = unwritten; drops = drops }

abbrev pub greeted : ClientFacts → ConsoleStyle → KeyWord → TalkView
greeted client style word = talk_view client [] (flat_map spelling (greeting style word)) false

-- A read or a write, in so many turns: `got` was taken, or `put` given.
pub record HasMoved (turns : ℕ) (old new : TalkView) : Type 0 where
  pub got : List ℕ
  pub put : List ℕ
  pub tells : new.client.tells ≡ old.client.tells
  pub taken : old.client.tells ≡ true → new.client.taken ≡ old.client.taken ++ got
  pub given : old.client.tells ≡ true → new.client.given ≡ old.client.given ++ put
  pub held : new.held ≡ old.held ++ got
  pub unwritten : old.unwritten ≡ put ++ new.unwritten
  pub drops : new.drops ≡ old.drops
  pub faults : old.client.faults ≤ new.client.faults
  pub counted : turns + waits old.client ≤ length got + length put + waits new.client

abbrev pub HasWritten : TalkView → TalkView → Turn → Type 0
HasWritten old new (turn.Over None) = HasMoved 0 old new × IsClientOver old.client new.client
HasWritten old new (turn.Over (Some r)) = ⊥
HasWritten old new t = HasMoved 1 old new

-- there may have been no memory for what was to be read
abbrev pub HasRead : TalkView → TalkView → Turn → Type 0
HasRead old new (turn.Over None) = HasMoved 0 old new × IsClientOver old.client new.client
HasRead old new (turn.Over (Some r)) = (r ≡ OutOfMemory) × (new ≡ old)
HasRead old new t = HasMoved 1 old new

-- From one turn to a later one, in so many turns at least. Two parts of a talk, one after the other, are one.
pub record Goes (a : Asker) (turns : ℕ) (old new : TalkView) (p q : Pass) : Type 0 where
  pub got : List ℕ
  pub put : List ℕ
  pub exchanges : List Exchange
  pub tells : new.client.tells ≡ old.client.tells
  pub taken : old.client.tells ≡ true → new.client.taken ≡ old.client.taken ++ got
  pub given : old.client.tells ≡ true → new.client.given ≡ old.client.given ++ put
  pub heard : old.held ++ got ≡ asked_bytes exchanges ++ new.held
  pub told : old.unwritten ++ told_bytes exchanges ≡ put ++ new.unwritten
  pub answered : AreAnswered a old.drops p exchanges
  pub drops : new.drops ≡ drops_behind old.drops exchanges
  pub pass : q ≡ after_exchanges exchanges p
  pub faults : old.client.faults ≤ new.client.faults
  pub counted : turns + waits old.client ≤ length got + length put + length exchanges + waits new.client

-- the client has left or its end is over, or it was turned as often as it may be
pub record HasGone (a : Asker) (old new : TalkView) (p q : Pass) : Type 0 where
  pub turns : ℕ
  pub goes : Goes a turns old new p q
  pub why : (Leaves a.settings.max_packet_size new.drops new.held × (new.unwritten ≡ [])) ⊎ (IsClientOver old.client new.client ⊎ (MAX_TURNS ≤ turns))

-- it is refused, where all that was told is given
pub record IsRefusedAt (a : Asker) (old new : TalkView) (p q : Pass) (r : Refusal) : Type 0 where
  pub at : Pass
  pub goes : Goes a 0 old new p at
  pub written : new.unwritten ≡ []
  pub refused : IsRefused a.settings.max_packet_size new.held r at q

abbrev pub HasEnded : Asker → TalkView → TalkView → Pass → Pass → Option Refusal → Type 0
HasEnded a old new p q None = HasGone a old new p q
HasEnded a old new p q (Some r) = IsRefusedAt a old new p q r

abbrev pub HasTurned : Asker → TalkView → TalkView → Pass → Pass → Turn → Type 0
HasTurned a old new p q turn.Again = Goes a 1 old new p q
HasTurned a old new p q turn.Wait = Goes a 1 old new p q
HasTurned a old new p q turn.Rest = Goes a 1 old new p q
HasTurned a old new p q (turn.Over last) = HasEnded a old new p q last
