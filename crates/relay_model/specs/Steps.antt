-- What each move of bytes does to the ends, and why a pump waits.
use Rattle.std.specs.Prelude.{◌≡◌, ◌≢◌, ℕ, ◌+◌, ◌<◌, ◌≤◌, Bool, true, false, ◌&&◌, ◌||◌, not, ◌==◌, [], length}
use Rattle.server_end.specs.declared.Moved.{Moved}
use Rattle.server_end.specs.declared.Moved.TheVariants.{NotNow}
use Rattle.relay_model.specs.declared.Flags.{Flags}
use Rattle.relay_flow.specs.declared.flow.TheConstants.{ROOM}
use Rattle.relay_flow.specs.Flows.{FlowView, NoneGoes, IsPositive, count_of, is_empty, is_faulty, is_open}
use Rattle.relay_model.specs.Leases.{RelayView, any_over, is_end, is_fault}
use Rattle.relay_model.specs.Answers.{is_quiet}

-- bytes taken from the client, given to it, accepted by the link, and come from it (given or still there)
abbrev pub bytes_moved : RelayView → ℕ
bytes_moved v = length v.client.taken + length v.client.given + length v.link.accepted + (length v.client.given + (length v.greeting + (length v.to_client.held + length v.to_client.part)))

-- so many more
pub record Adds (v w : RelayView) (n : ℕ) : Type 0 where
  pub adds : v.client.tells ≡ true → bytes_moved w ≡ bytes_moved v + n
  pub tells : w.client.tells ≡ v.client.tells

abbrev pub HasRoom : FlowView → Type 0
HasRoom f = length f.held + length f.part < ROOM

abbrev pub over_in : Moved → Bool
over_in m = is_end m || is_fault m

-- what was over stays so
pub record StaysOver (f g : Flags) : Type 0 where
  pub client : g.client_over ≡ false → f.client_over ≡ false
  pub input : g.input_over ≡ false → f.input_over ≡ false
  pub link : g.link_over ≡ false → f.link_over ≡ false

abbrev pub may_read_client : Bool → RelayView → Bool
may_read_client ready v = ready && (not (any_over v.flags) && is_open v.to_link.ends)

abbrev pub may_read_link : Bool → RelayView → Bool
may_read_link ready v = ready && (not (any_over v.flags) && (is_open v.to_client.ends && is_empty v.greeting))

abbrev pub may_write_link : Bool → RelayView → Bool
may_write_link ready v = ready && (not v.flags.link_over && (not (is_faulty v.to_link.ends) && not (is_empty v.to_link.held)))

abbrev pub may_write_client : Bool → RelayView → Bool
may_write_client ready v = ready && (not v.flags.client_over && not (is_quiet v))

-- nothing more of the client's may go on
abbrev pub IsStuck : FlowView → Type 0
IsStuck f = is_open f.ends ≡ true → NoneGoes f

-- nothing more of the server's, unless a fault of the client stops it at a border
abbrev pub stops_here : RelayView → Bool
stops_here v = is_faulty v.to_link.ends && (v.to_client.rest == 0)

abbrev pub IsStuckClient : RelayView → Type 0
IsStuckClient v = stops_here v ≡ false → IsStuck v.to_client

abbrev pub HoldsAll : RelayView → Type 0
HoldsAll v = IsStuck v.to_link × IsStuckClient v

-- what bytes that go on to the link leave alone
pub record OnlyToLink (v w : RelayView) : Type 0 where
  pub client : w.client ≡ v.client
  pub link : w.link ≡ v.link
  pub greeting : w.greeting ≡ v.greeting
  pub to_client : w.to_client ≡ v.to_client
  pub flags : w.flags ≡ v.flags

pub record OnlyToClient (v w : RelayView) : Type 0 where
  pub client : w.client ≡ v.client
  pub link : w.link ≡ v.link
  pub greeting : w.greeting ≡ v.greeting
  pub to_link : w.to_link ≡ v.to_link
  pub flags : w.flags ≡ v.flags
  pub there : length w.to_client.held + length w.to_client.part ≡ length v.to_client.held + length v.to_client.part

pub record ReadsClient (ready : Bool) (v w : RelayView) (m : Moved) : Type 0 where
  pub positive : IsPositive m
  pub adds : Adds v w (count_of m)
  pub link : w.link ≡ v.link
  pub greeting : w.greeting ≡ v.greeting
  pub to_client : w.to_client ≡ v.to_client
  pub untouched : ready ≡ false → w.client ≡ v.client
  pub writes : w.client.write_waits ≡ v.client.write_waits
  pub once : w.client.read_waits ≤ v.client.read_waits + 1
  pub kept : StaysOver v.flags w.flags
  pub over : any_over w.flags ≡ false → over_in m ≡ false
  pub unfaulted : w.flags.client_over ≡ false → w.client.faults ≡ v.client.faults
  pub reads : may_read_client ready v ≡ true → HasRoom v.to_link → m ≡ NotNow → w.client.read_waits ≡ v.client.read_waits + 1

pub record WritesLink (ready : Bool) (v w : RelayView) (m : Moved) : Type 0 where
  pub positive : IsPositive m
  pub adds : Adds v w (count_of m)
  pub client : w.client ≡ v.client
  pub greeting : w.greeting ≡ v.greeting
  pub to_client : w.to_client ≡ v.to_client
  pub ends : w.to_link.ends ≡ v.to_link.ends
  pub stuck : IsStuck v.to_link → IsStuck w.to_link
  pub untouched : may_write_link ready v ≡ false → w.link ≡ v.link
  pub reads : w.link.read_waits ≡ v.link.read_waits
  pub once : w.link.write_waits ≤ v.link.write_waits + 1
  pub kept : StaysOver v.flags w.flags
  pub over : w.flags.link_over ≡ false → over_in m ≡ false
  pub still : m ≡ NotNow → w.to_link.held ≡ v.to_link.held
  pub writes : may_write_link ready v ≡ true → m ≡ NotNow → w.link.write_waits ≡ v.link.write_waits + 1

pub record ReadsLink (ready : Bool) (v w : RelayView) (m : Moved) : Type 0 where
  pub positive : IsPositive m
  pub adds : Adds v w (count_of m)
  pub client : w.client ≡ v.client
  pub greeting : w.greeting ≡ v.greeting
  pub to_link : w.to_link ≡ v.to_link
  pub untouched : may_read_link ready v ≡ false → w.link ≡ v.link
  pub accepted : w.link.accepted ≡ v.link.accepted
  pub writes : w.link.write_waits ≡ v.link.write_waits
  pub once : w.link.read_waits ≤ v.link.read_waits + 1
  pub kept : StaysOver v.flags w.flags
  pub over : any_over w.flags ≡ false → over_in m ≡ false
  pub reads : may_read_link ready v ≡ true → HasRoom v.to_client → m ≡ NotNow → w.link.read_waits ≡ v.link.read_waits + 1

pub record WritesClient (ready : Bool) (v w : RelayView) (m : Moved) : Type 0 where
  pub positive : IsPositive m
  pub adds : Adds v w (count_of m)
  pub link : w.link ≡ v.link
  pub to_link : w.to_link ≡ v.to_link
  pub stuck : IsStuckClient v → IsStuckClient w
  pub untouched : ready ≡ false → w.client ≡ v.client
  pub reads : w.client.read_waits ≡ v.client.read_waits
  pub once : w.client.write_waits ≤ v.client.write_waits + 1
  pub kept : StaysOver v.flags w.flags
  pub over : w.flags.client_over ≡ false → over_in m ≡ false
  pub unfaulted : w.flags.client_over ≡ false → w.client.faults ≡ v.client.faults
  pub still : m ≡ NotNow → is_quiet w ≡ is_quiet v
  pub writes : may_write_client ready v ≡ true → m ≡ NotNow → w.client.write_waits ≡ v.client.write_waits + 1

-- a side that wasn't ready is as it was
abbrev pub LeavesSides : Bool → Bool → RelayView → RelayView → Type 0
LeavesSides client server v w = (client ≡ false → w.client ≡ v.client) × (server ≡ false → w.link ≡ v.link)

-- behind a fault of the client's bytes nothing more is written to the link, and over its end nothing moves once that is over
abbrev pub StopsLink : RelayView → RelayView → Type 0
StopsLink v w = (is_faulty w.to_link.ends ≡ true → w.link.accepted ≡ v.link.accepted) × (v.flags.link_over ≡ true → w.link ≡ v.link)

-- of each end at most one read and one write came to nothing
abbrev pub IsOnce : RelayView → RelayView → Type 0
IsOnce v w =
    (w.client.read_waits ≤ v.client.read_waits + 1) × (w.client.write_waits ≤ v.client.write_waits + 1)
    × (w.link.read_waits ≤ v.link.read_waits + 1) × (w.link.write_waits ≤ v.link.write_waits + 1)

-- Why nothing moved: each end that was ready answered NotNow to a read, where it may be read and there is room, and to a
-- write, where something that may go on is held for it.
pub record Waits (client server : Bool) (v w : RelayView) : Type 0 where
  pub client_read : client ≡ true → any_over w.flags ≡ false → is_open v.to_link.ends ≡ true → HasRoom v.to_link → w.client.read_waits ≡ v.client.read_waits + 1
  pub client_write : client ≡ true → is_quiet w ≡ false → w.client.write_waits ≡ v.client.write_waits + 1
  pub link_read : server ≡ true → any_over w.flags ≡ false → is_open v.to_client.ends ≡ true → v.greeting ≡ [] → HasRoom v.to_client → w.link.read_waits ≡ v.link.read_waits + 1
  pub link_write : server ≡ true → w.flags.link_over ≡ false → is_faulty w.to_link.ends ≡ false → w.to_link.held ≢ [] → w.link.write_waits ≡ v.link.write_waits + 1
