-- What the code of a client's service holds, in the definitions' words.
use Rattle.std.specs.Prelude.{◌≡◌, ◌≢◌, ◌⊎◌, ℕ, Bool, true, false, List, [], ◌++◌}
use Rattle.message_view.specs.declared.refusal.Refusal.{Refusal}
use Rattle.message_view.specs.declared.refusal.Refusal.TheVariants.{OutOfMemory}
use Rattle.message_view.specs.Refusals.{refusal}
use Rattle.link_model.specs.Futures.{future}
use Rattle.link_start.specs.declared.start.StartCause.{StartCause}
use Rattle.link_start.specs.declared.start.StartRefusal.{StartRefusal}
use Rattle.link_start.specs.declared.start.StartRefusal.TheVariants as told
use Rattle.link_start.specs.Refusing.{refusal_of}
use Rattle.relay_core.specs.Leases.{RelayView, Place, IsLease}
use Rattle.relay_core.specs.Answers.{AtBorder, EndsByClient, RefusedBy}
use Rattle.relay_core.specs.Steps.{IsStuck}
use Rattle.memory_ends.specs.Servers.{ServerOf, has_some}
use Rattle.memory_lease.specs.Own.{IsMarked, OwnOf, own_server}
use Rattle.memory_lease.specs.Unended.{StillWaits}
use Rattle.memory_lease.specs.declared.alone.ServeError.{ServeError}
use Rattle.memory_lease.specs.declared.alone.ServeError.TheVariants.{Memory, Unended, Unstarted}
use Rattle.memory_lease.specs.declared.alone.Ending.{Ending}
use Rattle.memory_lease.specs.declared.alone.Ending.TheVariants.{Done, Refused, Cut}

-- it counts no fault, and died of the bytes that were read from it
pub record HasDied (server : OwnOf) : Type 0 where
  pub marked : IsMarked server
  pub left : has_some server.left ≡ false

-- The bytes that tell a client why its link wasn't started: a refusal of the pooler's own, of a server that died. Of refused memory it
-- is told nothing.
abbrev pub TellsRefusal : StartRefusal → OwnOf → List ℕ → List ℕ → Type 0
TellsRefusal (told.Error error) server before after = after ≡ before ++ error
TellsRefusal (told.Refusal r) server before after = (r ≢ OutOfMemory) × ((after ≡ before ++ refusal r) × HasDied server)

abbrev pub TellsCause : StartCause → OwnOf → List ℕ → List ℕ → Type 0
TellsCause c server before after = TellsRefusal (refusal_of c) server before after

-- the server, which counts no fault and still waits
pub record IsWaitingServer (server : OwnOf) (last : ServerOf) : Type 0 where
  pub same : own_server last.left last.standing ≡ server
  pub faults : server.standing.faults ≡ 0
  pub waits : StillWaits server.standing

-- a refusal of the pooler's own for which the server is handed back
abbrev pub IsHandedBack : StartCause → OwnOf → ServeError → Type 0
IsHandedBack c server Memory = Unit {0}
IsHandedBack c server (Unended last) = ⊥
IsHandedBack c server (Unstarted last) = (r : Refusal) × ((refusal_of c ≡ told.Refusal r) × ((r ≢ OutOfMemory) × IsWaitingServer server last))

-- How a lease ended: by its client, and nothing more of the client's may go on; or at a border, by a refusal.
abbrev pub IsEnding : RelayView → RelayView → Ending → Type 0
IsEnding old v Done = IsStuck v.to_link × ((p : Place) → IsLease p old → EndsByClient p v)
IsEnding old v (Refused r) = (p : Place) → IsLease p old → AtBorder p v × RefusedBy p v r
IsEnding old v Cut = Unit {0}

-- the server doesn't live, or nothing is on its way and it has nothing more to give
abbrev pub IsAtEnd : Bool → OwnOf → Type 0
IsAtEnd clear server = ((clear ≡ true) × (future server.standing [] ≡ [])) ⊎ (server.standing.lives ≡ false)

-- what stands behind all that was given
abbrev pub IsPut : Ending → Bool → OwnOf → List ℕ → List ℕ → Type 0
IsPut Done clear server before after = (after ≡ before) × IsAtEnd clear server
IsPut (Refused r) clear server before after = after ≡ before ++ refusal r
IsPut Cut clear server before after = (after ≡ before) × (server.standing.lives ≡ false)

-- the same, of a server that dies of nothing but the bytes that were read from it
pub record TellsEnding (ending : Ending) (clear : Bool) (server : OwnOf) (before after : List ℕ) : Type 0 where
  pub marked : IsMarked server
  pub faults : server.standing.faults ≡ 0
  pub lives : server.standing.lives ≡ has_some server.left
  pub put : IsPut ending clear server before after
