-- What a pump answers, and what that says of the lease.
use Rattle.std.specs.Prelude.{◌≡◌, ◌⊎◌, ◌<◌, Bool, true, cond, ◌&&◌, ◌||◌, ◌==◌, [], ◌++◌, List, ℕ, Option, Some, None}
use Rattle.std.specs.List.{flat_map, AllByRecursion}
use Rattle.frame_view.specs.declared.FrameError.{FrameError}
use Rattle.frame_view.specs.declared.FrameError.TheVariants.{TooShort, TooLong, UnknownType, UnknownCode}
use Rattle.frame_view.specs.declared.Side.TheVariants.{Server}
use Rattle.frame_view.specs.declared.frames.TheConstants.{MAX_FRAME}
use Rattle.frame_view.specs.Frames.{FrameOf, IsFrame, spelling}
use Rattle.message_view.specs.declared.refusal.Refusal.{Refusal}
use Rattle.message_view.specs.declared.refusal.Refusal.TheVariants.{MalformedClientMessage, ClientMessageTooLong, MalformedServerMessage, ServerFailed}
use Rattle.relay_flow.specs.declared.flow.Ends.{Ends}
use Rattle.relay_flow.specs.declared.flow.Ends.TheVariants.{Open, Last, Faulty}
use Rattle.relay_flow.specs.Flows.{is_empty, is_faulty, is_last_end}
use Rattle.relay_model.specs.declared.Phase.{Phase}
use Rattle.relay_model.specs.declared.Phase.TheVariants.{Running, Done, Shut}
use Rattle.relay_model.specs.Leases.{RelayView, Place, IsClientOver, IsLinkOver}
use Rattle.relay_model.specs.declared.Next.{Next}
use Rattle.relay_model.specs.declared.Next.TheVariants.{Again, Wait, ClientDone, Refuse, Closed}

abbrev pub refusal_by : FrameError → Refusal
refusal_by TooShort = MalformedClientMessage
refusal_by TooLong = ClientMessageTooLong
refusal_by UnknownType = MalformedClientMessage
refusal_by UnknownCode = MalformedClientMessage

abbrev pub refusal_of : Ends → Option Refusal
refusal_of Open = None
refusal_of Last = None
refusal_of (Faulty fault) = Some (refusal_by fault)

abbrev pub is_done : RelayView → Bool
is_done v = v.flags.client_over || (is_empty v.to_link.held && (v.flags.input_over || is_last_end v.to_link.ends))

-- all that may go on to the client is written
abbrev pub is_quiet : RelayView → Bool
is_quiet v = is_empty v.greeting && is_empty v.to_client.held

abbrev pub moved_or : Bool → Next
moved_or none = cond none Wait Again

abbrev pub refused : Option Refusal → Next → Next
refused (Some r) n = Refuse r
refused None n = n

-- at a border of the server's frames
abbrev pub border_next : Bool → RelayView → Next
border_next none v =
    refused (refusal_of v.to_link.ends)
    (cond (is_faulty v.to_client.ends) (Refuse MalformedServerMessage) (cond v.flags.link_over (Refuse ServerFailed) (moved_or none)))

abbrev pub quiet_next : Bool → RelayView → Next
quiet_next none v = cond (v.to_client.rest == 0) (border_next none v) (cond v.flags.link_over Closed (moved_or none))

abbrev pub judged : Bool → RelayView → Next
judged none v = cond (is_done v) ClientDone (cond (is_quiet v) (quiet_next none v) (moved_or none))

-- the client's end ended or faulted since then, or its Terminate stands behind all that was written
abbrev pub EndsByClient : Place → RelayView → Type 0
EndsByClient p v = IsClientOver p.faults v.client ⊎ ((v.to_link.ends ≡ Last) × (v.to_link.held ≡ []))

-- why a refusal is answered
abbrev pub RefusedBy : Place → RelayView → Refusal → Type 0
RefusedBy p v r = (refusal_of v.to_link.ends ≡ Some r) ⊎ (((r ≡ MalformedServerMessage) × (is_faulty v.to_client.ends ≡ true)) ⊎ ((r ≡ ServerFailed) × IsLinkOver p.stands.faults v.link))

-- it comes at a border: the welcome and whole frames were given since then, and nothing is held for the client
pub record AtBorder (p : Place) (v : RelayView) : Type 0 where
  pub greeting : v.greeting ≡ []
  pub held : v.to_client.held ≡ []
  pub arrived : List FrameOf
  pub since : List ℕ
  pub came : AllByRecursion (IsFrame Server MAX_FRAME) arrived
  pub given : v.client.tells ≡ true → v.client.given ≡ p.given ++ since
  pub whole : since ≡ p.greeting ++ flat_map spelling arrived

-- the link is over inside a frame of which all that came was given
pub record IsCut (p : Place) (v : RelayView) : Type 0 where
  pub greeting : v.greeting ≡ []
  pub held : v.to_client.held ≡ []
  pub inside : 0 < v.to_client.rest
  pub over : IsLinkOver p.stands.faults v.link

abbrev pub phase_after : Next → Phase
phase_after Again = Running
phase_after Wait = Running
phase_after ClientDone = Done
phase_after (Refuse r) = Shut
phase_after Closed = Shut
