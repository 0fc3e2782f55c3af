-- A talk with a client of the console.
use Rattle.std.specs.Prelude.{◌≡◌, ◌⊎◌, ℕ, ◌+◌, ◌<◌, ◌≤◌, Bool, true, false, List, [], ◌++◌, length, Option, Some, None}
use Rattle.std.specs.List.{flat_map}
use Rattle.frame_view.specs.declared.FrameError.{FrameError}
use Rattle.frame_view.specs.declared.FrameError.TheVariants.{TooLong}
use Rattle.frame_view.specs.declared.Side.TheVariants.{Client}
use Rattle.frame_view.specs.Frames.{Faulty, FrameOf, IsFrame, front, spelling}
use Rattle.message_view.specs.declared.KeyWord.{KeyWord}
use Rattle.message_view.specs.declared.refusal.Refusal.{Refusal}
use Rattle.message_view.specs.declared.refusal.Refusal.TheVariants.{MalformedClientMessage, OutOfMemory, ClientMessageTooLong, LastDecision}
use Rattle.time_limits.specs.declared.TheConstants.{MAX_TURNS}
use Rattle.link_model.specs.Standing.{ClientFacts}
use Rattle.console_core.specs.declared.commands.Action.{Action}
use Rattle.console_core.specs.Messages.{Leave, response_to}
use Rattle.console_run.specs.Passing.{Pass, broken_by}
use Rattle.console_run.specs.Exchanges.{AreAnswered, Asker, Exchange, after_exchanges, asked_bytes, drops_behind, greeting, told_bytes}

-- ---- by what a client is refused

abbrev pub refused_by : FrameError → Refusal
refused_by TooLong = ClientMessageTooLong
refused_by _ = MalformedClientMessage

-- what stands next can't become a message under the limit, by a fault of this refusal
pub record IsFaulty (limit : ℕ) (held : List ℕ) (r : Refusal) : Type 0 where
  pub fault : FrameError
  pub stands : front Client limit held ≡ Faulty fault
  pub refusal : refused_by fault ≡ r

-- for a whole message there was no memory, or it was answered by the book's last decision
abbrev pub IsRefusedBy : Refusal → Pass → Pass → Type 0
IsRefusedBy OutOfMemory p q = q ≡ p
IsRefusedBy LastDecision p q = (action : Action) × (q ≡ broken_by action p)
IsRefusedBy _ p q = ⊥

-- why it is refused, where `held` stands next
abbrev pub IsRefused : ℕ → List ℕ → Refusal → Pass → Pass → Type 0
IsRefused limit held MalformedClientMessage p q = IsFaulty limit held MalformedClientMessage × (q ≡ p)
IsRefused limit held ClientMessageTooLong p q = IsFaulty limit held ClientMessageTooLong × (q ≡ p)
IsRefused limit held r p q = IsRefusedBy r p q

-- ---- why it is over without a refusal

-- the message by which the client leaves stands next
pub record Leaves (limit : ℕ) (drops : Bool) (held : List ℕ) : Type 0 where
  pub message : FrameOf
  pub behind : List ℕ
  pub stands : held ≡ spelling message ++ behind
  pub is_frame : IsFrame Client limit message
  pub leaves : response_to drops message ≡ Leave

-- the client's end ended or faulted
abbrev pub IsClientOver : ClientFacts → ClientFacts → Type 0
IsClientOver old new = (new.ended ≡ true) ⊎ (old.faults < new.faults)

abbrev pub waits : ClientFacts → ℕ
waits c = c.read_waits + c.write_waits

-- ---- the whole talk

-- what stands at its end: the exchanges, the bytes behind them, what was given, and what is told and not given
pub record Said : Type 0 where
  pub exchanges : List Exchange
  pub held : List ℕ
  pub put : List ℕ
  pub unwritten : List ℕ

abbrev pub turns_of : Said → ℕ
turns_of x = length (asked_bytes x.exchanges ++ x.held) + length x.put + length x.exchanges

-- else it was turned `MAX_TURNS` times, which is 2^64 - 1: at each turn a byte moved, a message was answered, or the client's end had nothing at that time
abbrev pub IsOver : ℕ → ClientFacts → ClientFacts → Said → Type 0
IsOver limit before after x =
    (Leaves limit (drops_behind false x.exchanges) x.held × (x.unwritten ≡ []))
    ⊎ (IsClientOver before after ⊎ (MAX_TURNS + waits before ≤ turns_of x + waits after))

-- where it is refused, all that was told is given
abbrev pub EndsBy : ℕ → ClientFacts → ClientFacts → Said → Option Refusal → Pass → Pass → Type 0
EndsBy limit before after x None p q = IsOver limit before after x × (q ≡ p)
EndsBy limit before after x (Some r) p q = (x.unwritten ≡ []) × IsRefused limit x.held r p q

-- Whole messages were heard, none between them left out, and answered as each came. The client was given what it was told, the greeting and the answers, but for what is unwritten.
pub record Talks (a : Asker) (word : KeyWord) (before after : ClientFacts) (p q : Pass) (last : Option Refusal) : Type 0 where
  pub said : Said
  pub answered : AreAnswered a false p said.exchanges
  pub taken : before.tells ≡ true → after.taken ≡ before.taken ++ (asked_bytes said.exchanges ++ said.held)
  pub given : before.tells ≡ true → after.given ≡ before.given ++ said.put
  pub told : said.put ++ said.unwritten ≡ flat_map spelling (greeting a.settings.console_style word) ++ told_bytes said.exchanges
  pub ends : EndsBy a.settings.max_packet_size before after said last (after_exchanges said.exchanges p) q

-- there was no memory for the greeting
pub record IsUngreeted (before after : ClientFacts) (p q : Pass) (last : Option Refusal) : Type 0 where
  pub client : after ≡ before
  pub pass : q ≡ p
  pub refused : last ≡ Some OutOfMemory

abbrev pub IsServed : Asker → KeyWord → ClientFacts → ClientFacts → Pass → Pass → Option Refusal → Type 0
IsServed a word before after p q last = IsUngreeted before after p q last ⊎ Talks a word before after p q last
