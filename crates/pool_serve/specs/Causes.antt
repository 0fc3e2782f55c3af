-- Why a worker refuses its client.
use Rattle.std.specs.Prelude.{◌≡◌, ◌⊎◌, ℕ, ◌+◌, ◌≤◌, true, false, List}
use Rattle.message_view.specs.declared.KeyWord.{KeyWord}
use Rattle.message_view.specs.declared.refusal.Refusal.{Refusal}
use Rattle.message_view.specs.declared.refusal.Refusal.TheVariants.{TooManyClients, MalformedClientMessage, WaitedTooLong, ServerFailed, ServerNotReached, ShuttingDown, OutOfMemory, ClientMessageTooLong, MalformedServerMessage, LastDecision}
use Rattle.session_values.specs.State.{StartKeyOf}
use Rattle.link_desk.specs.Passes.{PassOf}
use Rattle.relay_model.specs.Faults.{IsAtFault}
use Rattle.login_core.specs.Talk.End.{Passed}
use Rattle.login_core.specs.Dialogue.{Rows, ToLink, login_among}
use Rattle.login_core.specs.Logins.{LoginView, rows_of}
use Rattle.login_run.specs.Laws.{IsRefusedByLogin}
use Rattle.pool_serve.specs.declared.final_message.FinalMessage.{FinalMessage}
use Rattle.pool_serve.specs.declared.final_message.FinalMessage.TheVariants as last

-- ---- what the desk decided, as the pass tells it; where a call was answered by the last decision or as strange, not all was counted

-- from where on: the client's arrival, its asking for a link, its wait for that, or its lease
pub data Since : Type 0 where
  AtArrival : Since
  AtAsking : Since
  AtWait : Since
  AtLease : Since

-- no link was granted
abbrev pub HadNone : PassOf → PassOf → Type 0
HadNone p q = q.made.granted ≡ p.made.granted

-- one was; a lease begins once it is
abbrev pub HadLink : Since → PassOf → PassOf → Type 0
HadLink AtLease p q = q.made.granted ≡ p.made.granted
HadLink since p q = q.made.granted ≡ p.made.granted + 1

-- it is lost, or was not started
abbrev pub HasLost : PassOf → PassOf → Type 0
HasLost p q = q.is_broken ≡ false → q.made.lost ≡ p.made.lost + 1

-- no link was granted, and at least so many decisions moved none: an asking that was queued, and the refusal
abbrev pub IsTurnedAway : ℕ → PassOf → PassOf → Type 0
IsTurnedAway times p q = HadNone p q × (q.is_broken ≡ false → p.made.others + times ≤ q.made.others)

-- so many decisions a wait that was too long takes: the refusal, and the asking before it
abbrev pub of_wait : Since → ℕ
of_wait AtArrival = 2
of_wait AtAsking = 2
of_wait AtWait = 1
of_wait AtLease = 1

-- the client was not let in
abbrev pub IsShutOut : Since → PassOf → PassOf → Type 0
IsShutOut AtArrival p q = IsTurnedAway 1 p q × (q.made.arrived ≡ p.made.arrived)
IsShutOut since p q = ⊥

-- The trace of each refusal. That memory was refused no pass tells, and the others are a login's alone.
abbrev pub HasTrace : Since → PassOf → PassOf → Refusal → Type 0
HasTrace since p q TooManyClients = IsShutOut since p q
HasTrace since p q ShuttingDown = IsTurnedAway 1 p q
HasTrace since p q WaitedTooLong = IsTurnedAway (of_wait since) p q
HasTrace since p q LastDecision = q.is_broken ≡ true
HasTrace since p q ServerNotReached = HadLink since p q × HasLost p q
HasTrace since p q MalformedClientMessage = HadLink since p q
HasTrace since p q ClientMessageTooLong = HadLink since p q
HasTrace since p q MalformedServerMessage = HadLink since p q
HasTrace since p q ServerFailed = HadLink since p q
HasTrace since p q OutOfMemory = Unit {0}
HasTrace since p q other = ⊥

-- and of each last word; a server's own error comes of a start that failed
abbrev pub WordHasTrace : Since → PassOf → PassOf → FinalMessage → Type 0
WordHasTrace since p q last.Nothing = Unit {0}
WordHasTrace since p q (last.Refusal r) = HasTrace since p q r
WordHasTrace since p q (last.Error error) = HadLink since p q × HasLost p q

-- ---- what the client sent

-- where these bytes were relayed, a refusal of a client's message is that of their fault
abbrev pub IsFaulty : ℕ → List ℕ → Refusal → Type 0
IsFaulty limit bytes MalformedClientMessage = IsAtFault limit bytes MalformedClientMessage
IsFaulty limit bytes ClientMessageTooLong = IsAtFault limit bytes ClientMessageTooLong
IsFaulty limit bytes other = Unit {0}

abbrev pub IsFaultyWord : ℕ → List ℕ → FinalMessage → Type 0
IsFaultyWord limit bytes (last.Refusal r) = IsFaulty limit bytes r
IsFaultyWord limit bytes other = Unit {0}

-- the fault stands behind a login that passed
pub record IsFaultyBehind (rows : Rows) (word : KeyWord) (limit : ℕ) (taken : List ℕ) (r : Refusal) : Type 0 where
  pub key : StartKeyOf
  pub rest : List ℕ
  pub passed : (login_among rows word taken).ended ≡ Passed (ToLink key) rest
  pub fault : IsAtFault limit rest r

abbrev pub HasFault : Rows → KeyWord → ℕ → List ℕ → Refusal → Type 0
HasFault rows word limit taken MalformedClientMessage = IsFaultyBehind rows word limit taken MalformedClientMessage
HasFault rows word limit taken ClientMessageTooLong = IsFaultyBehind rows word limit taken ClientMessageTooLong
HasFault rows word limit taken other = Unit {0}

-- ---- both

-- A refusal is the login's own; or the pass tells its cause, and where it refuses a client's message, that message is faulty.
abbrev pub HasCause : LoginView → List ℕ → PassOf → PassOf → Refusal → Type 0
HasCause v taken p q r = IsRefusedByLogin v taken r ⊎ (HasTrace AtArrival p q r × HasFault (rows_of v) v.word v.settings.max_packet_size taken r)
