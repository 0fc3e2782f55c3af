-- What a client is told last.
use Rattle.std.specs.Prelude.{◌≡◌, ◌⊎◌, ℕ, ◌+◌, ◌≤◌, true, List, [], ◌++◌, length, take, Option, Some, None}
use Rattle.message_view.specs.declared.refusal.Refusal.{Refusal}
use Rattle.message_view.specs.declared.refusal.Refusal.TheVariants.{LastDecision, OutOfMemory, ServerNotReached}
use Rattle.message_view.specs.Refusals.{refusal}
use Rattle.link_model.specs.Standing.{ClientFacts}
use Rattle.link_start.specs.declared.start.StartCause.{StartCause}
use Rattle.link_start.specs.declared.start.StartRefusal.{StartRefusal}
use Rattle.link_start.specs.declared.start.StartRefusal.TheVariants as told
use Rattle.link_start.specs.Refusing.{refusal_of}
use Rattle.login_run.specs.Runs.{IsClientOver}
use Rattle.time_limits.specs.declared.TheConstants.{CLIENT_TURNS}
use Rattle.pool_serve.specs.declared.ending.Ending.{Ending}
use Rattle.pool_serve.specs.declared.ending.Ending.TheVariants as ending
use Rattle.pool_serve.specs.declared.final_message.FinalMessage.{FinalMessage}
use Rattle.pool_serve.specs.declared.final_message.FinalMessage.TheVariants as last

abbrev pub last_bytes : FinalMessage → List ℕ
last_bytes last.Nothing = []
last_bytes (last.Refusal r) = refusal r
last_bytes (last.Error error) = error

abbrev pub or_nothing : Option Refusal → FinalMessage
or_nothing None = last.Nothing
or_nothing (Some r) = last.Refusal r

abbrev pub message_told : StartRefusal → FinalMessage
message_told (told.Error error) = last.Error error
message_told (told.Refusal r) = last.Refusal r

-- what a client is told whose link wasn't started
abbrev pub final_message_of_start : StartCause → FinalMessage
final_message_of_start cause = message_told (refusal_of cause)

-- what a client is told last whose time at the desk ended so
abbrev pub final_message_of : Ending → FinalMessage
final_message_of ending.Left = last.Nothing
final_message_of (ending.Refused r) = last.Refusal r
final_message_of ending.Memory = last.Refusal OutOfMemory
final_message_of ending.Strange = last.Nothing
final_message_of ending.Last = last.Refusal LastDecision
final_message_of ending.Unreached = last.Refusal ServerNotReached
final_message_of (ending.Unstarted cause) = final_message_of_start cause
final_message_of (ending.Relayed r) = or_nothing r
final_message_of (ending.Managed r) = or_nothing r

-- So many of these bytes were given: all, unless the client's end ended or faulted, or so many times as `CLIENT_TURNS` bytes went or none did.
pub record HasGiven (old new : ClientFacts) (bytes : List ℕ) : Type 0 where
  pub tells : new.tells ≡ old.tells
  pub taken : old.tells ≡ true → new.taken ≡ old.taken
  pub count : ℕ
  pub given : old.tells ≡ true → new.given ≡ old.given ++ take count bytes
  pub why : (count ≡ length bytes) ⊎ (IsClientOver old new ⊎ (old.write_waits + CLIENT_TURNS ≤ new.write_waits + count))
