-- A link that isn't started while its server lives, and a lease that comes to no end.
use Rattle.std.specs.Prelude.{◌≡◌, ◌⊎◌, ◌+◌, ◌≤◌, ℕ, true, List, ◌++◌, Option}
use Rattle.message_view.specs.Bodies.{Text}
use Rattle.message_view.specs.Refusals.{Begins}
use Rattle.session_values.specs.State.{StartKeyOf}
use Rattle.link_model.specs.Stages.{packets_bytes}
use Rattle.link_model.specs.Standing.{Standing}
use Rattle.link_model.specs.Dialogues.{auth_of, start_packets}
use Rattle.link_start.specs.Starts.{IsUnanswerable, waits_of}
use Rattle.credentials.specs.Credentials.{CredentialOf}
use Rattle.memory_ends.specs.Servers.{LAST_COUNT}
use Rattle.memory_lease.specs.declared.alone.ServeError.{ServeError}
use Rattle.memory_lease.specs.declared.alone.ServeError.TheVariants.{Memory, Unended, Unstarted}
use Rattle.memory_lease.specs.declared.alone.TheConstants.{START_TURNS}

-- the server lives; or it was read in vain as often as is counted
abbrev pub StillWaits : Standing → Type 0
StillWaits now = (now.lives ≡ true) ⊎ (now.read_waits ≡ LAST_COUNT)

-- It still waits, and since it was new it accepted a whole start with this key, and then a beginning of the client's bytes.
pub record IsUnended (began : Standing) (key : StartKeyOf) (bytes : List ℕ) (now : Standing) : Type 0 where
  pub waits : StillWaits now
  pub given : List (List ℕ)
  pub over : List ℕ
  pub accepted : now.accepted ≡ (began.accepted ++ packets_bytes (start_packets key given)) ++ over
  pub own : Begins over bytes

-- It still waits, and no link was started over it: it asks what this user can't answer, or so many turns were waited in vain, or it was
-- read in vain as often as is counted.
pub record IsUnstarted (began : Standing) (cred : CredentialOf) (key : StartKeyOf) (now : Standing) : Type 0 where
  pub waits : StillWaits now
  pub because : IsUnanswerable cred key.user (auth_of began.stage) ⊎ ((START_TURNS + waits_of began ≤ waits_of now) ⊎ (now.read_waits ≡ LAST_COUNT))

-- That memory was refused no contract can say.
abbrev pub IsUnserved : Standing → CredentialOf → StartKeyOf → List ℕ → ServeError → Type 0
IsUnserved began cred key bytes Memory = Unit {0}
IsUnserved began cred key bytes (Unstarted server) = IsUnstarted began cred key server.standing
IsUnserved began cred key bytes (Unended server) = IsUnended began key bytes server.standing
