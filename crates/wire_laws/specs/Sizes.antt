-- How much is kept of what goes over a link.
use Rattle.std.specs.Prelude.{◌≡◌, ◌≤◌, ◌+◌, []}
use Rattle.relay_flow.specs.declared.flow.TheConstants.{ROOM}
use Rattle.relay_flow.specs.declared.parts.TheConstants.{HEAD, MAX_STATUS, READY_LENGTH}
use Rattle.relay_flow.specs.Flows.{FlowView, NoneGoes}
use Rattle.relay_model.specs.Steps.{HasRoom}
use Rattle.link_run.specs.declared.reply.TheConstants.{MAX_REPLY}
use Rattle.param_track.specs.declared.reported.TheConstants.{MAX_NAMES}

-- a buffer's bytes each way; a head, a ReadyForQuery's length, and the longest body of a ParameterStatus that goes on whole; the longest
-- frame that answers a start or a reset; and the names that a start may report
pub record AreSizes : Type 0 where
  pub room : ROOM ≡ 8192
  pub head : HEAD ≡ 5
  pub ready : READY_LENGTH ≡ 5
  pub status : MAX_STATUS ≡ 4096
  pub reply : MAX_REPLY ≡ 65536
  pub names : MAX_NAMES ≡ 64
  -- what goes on whole has room
  pub fits : HEAD + MAX_STATUS ≤ ROOM

abbrev pub IdleHasRoom : Type 0
IdleHasRoom = (v : FlowView) → v.held ≡ [] → NoneGoes v → HasRoom v
