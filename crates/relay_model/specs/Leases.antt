-- A relay as contracts see it, and what one lease keeps.
use Rattle.std.specs.Prelude.{◌≡◌, ◌⊎◌, ◌≢◌, ℕ, ◌+◌, ◌<◌, ◌≤◌, Bool, true, false, ◌&&◌, ◌||◌, ◌==◌, Option, List, [], ◌++◌, length, Ok}
use Rattle.std.specs.List.{flat_map, AllByRecursion}
use Rattle.disposal.specs.declared.Verdict.{Verdict}
use Rattle.disposal.specs.Tallies.{verdict_of}
use Rattle.param_track.specs.KeptReports.{KeptReport}
use Rattle.frame_view.specs.declared.Side.{Side}
use Rattle.frame_view.specs.declared.Side.TheVariants.{Client, Server}
use Rattle.frame_view.specs.Frames.{AreBytes, FrameOf, IsFrame, spelling}
use Rattle.frame_view.specs.declared.frames.TheConstants.{MAX_FRAME}
use Rattle.frame_view.specs.declared.client.TheConstants.{TERMINATE}
use Rattle.message_view.specs.declared.KeyWord.{KeyWord}
use Rattle.message_view.specs.declared.views.KeyView.{KeyView}
use Rattle.session_values.specs.State.{State, StartKeyOf, fresh}
use Rattle.session_values.specs.Service.{service, welcome}
use Rattle.session_laws.specs.Laws.{IsSent}
use Rattle.link_model.specs.Standing.{Standing, ClientFacts, Moves, marks_since}
use Rattle.link_run.specs.declared.Moved.{Moved}
use Rattle.link_run.specs.declared.Moved.TheVariants as moved
use Rattle.link_run.specs.Links.{LinkView, welcome_by}
use Rattle.link_run.specs.Receipts.{IsClean}
use Rattle.link_model.specs.Futures.{future}
use Rattle.relay_flow.specs.Parts.{Opens}
use Rattle.relay_flow.specs.Flows.{FlowView, IsEnded, is_empty, is_faulty}
use Rattle.relay_model.specs.Verdicts.{Told, Telling, verdict_by}
use Rattle.relay_model.specs.declared.Flags.{Flags}
use Rattle.relay_model.specs.declared.Phase.{Phase}

pub record RelayView : Type 0 where
  pub client : ClientFacts
  pub link : Standing
  pub key : StartKeyOf
  pub number : ℕ
  pub started_at : ℕ
  pub server_key : Option KeyView
  pub word : KeyWord
  -- what the client is still to be given of its welcome
  pub greeting : List ℕ
  pub to_link : FlowView
  pub to_client : FlowView
  pub told : Told
  pub flags : Flags
  pub phase : Phase

abbrev pub relay_view : ClientFacts → Standing → StartKeyOf → ℕ → ℕ → Option KeyView → KeyWord → List ℕ → FlowView → FlowView → Told → Flags → Phase → RelayView
relay_view client link key number started_at server_key word greeting to_link to_client told flags phase = record {
  client = client;
  link = link;
  key = key;
  number = number;
  started_at = started_at;
  server_key = server_key;
  word = word;
  greeting = greeting;
  to_link = to_link;
  to_client = to_client;
  told = told;
  flags = flags;
  phase = phase;
}

-- ---- what an end's answer tells

abbrev pub counts : Moved → Bool
counts (moved.Count n) = true
counts moved.NotNow = false
counts moved.Ended = false
counts moved.Fault = false

abbrev pub is_end : Moved → Bool
is_end (moved.Count n) = false
is_end moved.NotNow = false
is_end moved.Ended = true
is_end moved.Fault = false

abbrev pub is_fault : Moved → Bool
is_fault (moved.Count n) = false
is_fault moved.NotNow = false
is_fault moved.Ended = false
is_fault moved.Fault = true

abbrev pub flags_of : Bool → Bool → Bool → Bool → Flags
flags_of touched client_over input_over link_over = record { touched = touched; client_over = client_over; input_over = input_over; link_over = link_over }

abbrev pub link_moved : Flags → Moved → Flags
link_moved f m = flags_of (f.touched || counts m) f.client_over f.input_over (f.link_over || (is_end m || is_fault m))

abbrev pub client_read : Flags → Moved → Flags
client_read f m = flags_of f.touched (f.client_over || is_fault m) (f.input_over || is_end m) f.link_over

abbrev pub client_wrote : Flags → Moved → Flags
client_wrote f m = flags_of f.touched (f.client_over || (is_end m || is_fault m)) f.input_over f.link_over

abbrev pub any_over : Flags → Bool
any_over f = f.client_over || (f.input_over || f.link_over)

-- ---- a lease

-- where the ends stood when the lease began, and what the client was to be given first
pub record Place : Type 0 where
  pub told : Bool
  pub taken : List ℕ
  pub given : List ℕ
  pub faults : ℕ
  pub stands : Standing
  pub reports : List KeptReport
  pub key : StartKeyOf
  pub number : ℕ
  pub started_at : ℕ
  pub server_key : Option KeyView
  pub word : KeyWord
  pub limit : ℕ
  pub greeting : List ℕ

-- the welcome of a link that keeps these reports, with the client's own key word
abbrev pub greeting_of : List KeptReport → KeyWord → List ℕ
greeting_of reports word = flat_map spelling (welcome_by reports word.pid word.secret)

abbrev pub place : ClientFacts → LinkView → KeyWord → ℕ → Place
place client link word limit = record { told = client.tells; taken = client.taken; given = client.given; faults = client.faults; stands = link.stands; reports = link.reports; key = link.key; number = link.number; started_at = link.started_at; server_key = link.server_key; word = word; limit = limit; greeting = greeting_of link.reports word }

-- the welcome of the link's fresh session, with the client's own key word
abbrev pub IsGreeting : Standing → StartKeyOf → KeyWord → List ℕ → Type 0
IsGreeting at key word greeting = at.follows ≡ true → (s : State) → fresh at.server.catalogue key ≡ Ok s → greeting ≡ flat_map spelling (welcome s word.pid word.secret)

-- the client's end has ended or faulted
abbrev pub IsClientOver : ℕ → ClientFacts → Type 0
IsClientOver faults c = (c.ended ≡ true) ⊎ (faults < c.faults)

abbrev pub IsLinkOver : ℕ → Standing → Type 0
IsLinkOver faults l = (l.lives ≡ false) ⊎ (faults < l.faults)

-- a frame of the client that went on: lawful, under the limit, and no Terminate
pub record IsForwarded (limit : ℕ) (f : FrameOf) : Type 0 where
  pub sent : IsSent f
  pub under : IsFrame Client limit f
  pub goes_on : f.kind ≢ TERMINATE

pub record IsFlow (side : Side) (f : FlowView) : Type 0 where
  pub side_is : f.side ≡ side
  pub low : 4 ≤ f.limit
  pub high : f.limit ≤ MAX_FRAME
  pub ended : IsEnded f

-- it is the same link, key word and limit still
abbrev pub IsSame : Place → RelayView → Type 0
IsSame p v = (v.key ≡ p.key) × (v.number ≡ p.number) × (v.started_at ≡ p.started_at) × (v.word ≡ p.word) × (v.to_link.limit ≡ p.limit) × (v.to_client.limit ≡ p.limit) × (v.server_key ≡ p.server_key)

-- From the client to the link, since that place: these frames went on, and the beginning (tail) of one more. What was
-- sent over the link and what is held for it are these; what was taken from the client are these and the part behind them.
pub record Goes (p : Place) (client : ClientFacts) (f : FlowView) (sent : List ℕ) (forwarded : List FrameOf) (tail : List ℕ) : Type 0 where
  pub flow : IsFlow Client f
  pub opens : Opens f.side f.limit tail f.kind f.rest
  pub tail_bytes : AreBytes tail
  pub went : AllByRecursion (IsForwarded f.limit) forwarded
  pub on_way : sent ++ f.held ≡ flat_map spelling forwarded ++ tail
  pub taken : client.tells ≡ true → client.taken ≡ p.taken ++ (flat_map spelling forwarded ++ (tail ++ f.part))

-- From the link to the client: what was received are these whole frames, the beginning (front) of one more, and the part
-- behind it. What the client was given since, the rest of its welcome, what is held for it and the part are the welcome and
-- what was received.
pub record Comes (p : Place) (client : ClientFacts) (greeting : List ℕ) (f : FlowView) (received since : List ℕ) (arrived : List FrameOf) (front : List ℕ) : Type 0 where
  pub flow : IsFlow Server f
  pub opens : Opens f.side f.limit front f.kind f.rest
  pub came : AllByRecursion (IsFrame Server MAX_FRAME) arrived
  pub whole : received ≡ flat_map spelling arrived ++ (front ++ f.part)
  pub out : since ++ (greeting ++ (f.held ++ f.part)) ≡ p.greeting ++ received
  pub given : client.tells ≡ true → client.given ≡ p.given ++ since

-- what the flags say of the ends since that place
pub record Says (p : Place) (client : ClientFacts) (link : Standing) (flags : Flags) (sent received : List ℕ) : Type 0 where
  pub client_faults : p.faults ≤ client.faults
  pub link_faults : p.stands.faults ≤ link.faults
  pub client_over : flags.client_over ≡ true → IsClientOver p.faults client
  pub input_over : flags.input_over ≡ true → IsClientOver p.faults client
  pub link_over : flags.link_over ≡ true → IsLinkOver p.stands.faults link
  pub unfaulted : flags.link_over ≡ false → link.faults ≡ p.stands.faults
  pub untouched : flags.touched ≡ false → (sent ≡ []) × (received ≡ [])
  pub touched : flags.touched ≡ true → 0 < length sent + length received

-- A lease that began at that place.
pub record IsLease (p : Place) (v : RelayView) : Type 0 where
  -- what went over the link, each way, and what the client was given
  pub sent : List ℕ
  pub received : List ℕ
  pub since : List ℕ
  -- the frames that went on, each way, and the beginning of one more
  pub forwarded : List FrameOf
  pub tail : List ℕ
  pub arrived : List FrameOf
  pub front : List ℕ
  pub clean : IsClean p.stands v.key v.server_key p.reports
  pub greets : IsGreeting p.stands v.key v.word p.greeting
  pub same : IsSame p v
  pub told : v.client.tells ≡ p.told
  pub moves : Moves p.stands sent v.link received
  pub goes : Goes p v.client v.to_link sent forwarded tail
  pub comes : Comes p v.client v.greeting v.to_client received since arrived front
  pub tally : Telling p.reports v.told forwarded arrived
  pub says : Says p v.client v.link v.flags sent received

-- some lease is under way
abbrev pub IsRelay : RelayView → Type 0
IsRelay v = (p : Place) × IsLease p v

-- every lease under way stays so
abbrev pub Keeps : RelayView → RelayView → Type 0
Keeps v w = (p : Place) → IsLease p v → IsLease p w

-- The equation: what was given since the lease began, what is held for the client, and the link's future with what is held
-- for it, are what a server started for this client alone answers to the frames that went on, where cancels strike those that
-- they struck since the lease began.
pub record IsRelayExact (p : Place) (v : RelayView) : Type 0 where
  pub forwarded : List FrameOf
  pub since : List ℕ
  pub tail : List ℕ
  pub opens : Opens v.to_link.side v.to_link.limit tail v.to_link.kind v.to_link.rest
  pub went : AllByRecursion (IsForwarded v.to_link.limit) forwarded
  pub taken : v.client.taken ≡ p.taken ++ (flat_map spelling forwarded ++ (tail ++ v.to_link.part))
  pub given : v.client.given ≡ p.given ++ since
  pub equation : (since ++ (v.greeting ++ (v.to_client.held ++ v.to_client.part))) ++ future v.link v.to_link.held ≡ service p.stands.server.catalogue v.key v.word.pid v.word.secret (marks_since p.stands v.link) (flat_map spelling forwarded ++ tail)

-- Dead or alive: what was given and is held is a front of it, and what the link accepted are the client's own bytes.
pub record IsAllowed (p : Place) (v : RelayView) : Type 0 where
  pub forwarded : List FrameOf
  pub since : List ℕ
  pub tail : List ℕ
  pub more : List ℕ
  pub sent : List ℕ
  pub opens : Opens v.to_link.side v.to_link.limit tail v.to_link.kind v.to_link.rest
  pub went : AllByRecursion (IsForwarded v.to_link.limit) forwarded
  pub taken : v.client.taken ≡ p.taken ++ (flat_map spelling forwarded ++ (tail ++ v.to_link.part))
  pub given : v.client.given ≡ p.given ++ since
  pub front : (since ++ (v.greeting ++ (v.to_client.held ++ v.to_client.part))) ++ more ≡ service p.stands.server.catalogue v.key v.word.pid v.word.secret (marks_since p.stands v.link) (flat_map spelling forwarded ++ tail)
  pub accepted : v.link.accepted ≡ p.stands.accepted ++ sent
  pub forwards : sent ++ v.to_link.held ≡ flat_map spelling forwarded ++ tail

-- ---- the verdict

-- all that went on is written, and both directions stand at a border
abbrev pub at_border : RelayView → Bool
at_border v = (is_empty v.to_link.held && (v.to_link.rest == 0)) && (is_empty v.to_client.part && (v.to_client.rest == 0))

abbrev pub relay_verdict : RelayView → Verdict
relay_verdict v = verdict_by (verdict_of v.told.tally) (is_faulty v.to_client.ends) (at_border v)
