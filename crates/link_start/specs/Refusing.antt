-- What a client is told whose link wasn't started.
use Rattle.message_view.specs.declared.refusal.Refusal.TheVariants.{OutOfMemory, ServerNotReached}
use Rattle.link_start.specs.declared.start.StartCause.{StartCause}
use Rattle.link_start.specs.declared.start.StartCause.TheVariants as cause
use Rattle.link_start.specs.declared.start.StartRefusal.{StartRefusal}
use Rattle.link_start.specs.declared.start.StartRefusal.TheVariants.{Error, Refusal}

-- the server's own error; or that memory was refused, or that the server could not be reached
abbrev pub refusal_of : StartCause → StartRefusal
refusal_of (cause.Refused error) = Error error
refusal_of cause.Memory = Refusal OutOfMemory
refusal_of cause.Lost = Refusal ServerNotReached
refusal_of (cause.Unanswerable question) = Refusal ServerNotReached
refusal_of cause.Unexpected = Refusal ServerNotReached
refusal_of cause.Turns = Refusal ServerNotReached
refusal_of cause.Late = Refusal ServerNotReached
