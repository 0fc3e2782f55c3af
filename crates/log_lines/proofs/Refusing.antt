-- The text of each refusal stands in the bytes that its client is given.
use Rattle.std.proofs.Common.{◌≡◌, refl}
use Rattle.message_view.specs.declared.refusal.Refusal.{Refusal}
use Rattle.message_view.specs.declared.refusal.Refusal.TheVariants.{TooManyClients, UnsupportedProtocol, MalformedClientMessage, UnsupportedParameter, WaitedTooLong, ServerFailed, ServerNotReached, ShuttingDown, OutOfMemory, ClientMessageTooLong, MalformedServerMessage, LastDecision}
use Rattle.message_view.specs.Reading.{ended_at, field_at, list_until, note_of, text_at}
use Rattle.message_view.specs.Refusals.{refusal, telling}
use Rattle.log_lines.specs.Lines.{field_of}

pub texts : (r : Refusal) → field_of 77 (refusal r) ≡ (telling r).message
unfolding refusal note_of ended_at list_until field_at text_at
texts TooManyClients = refl
texts UnsupportedProtocol = refl
texts MalformedClientMessage = refl
texts UnsupportedParameter = refl
texts WaitedTooLong = refl
texts ServerFailed = refl
texts ServerNotReached = refl
texts ShuttingDown = refl
texts OutOfMemory = refl
texts ClientMessageTooLong = refl
texts MalformedServerMessage = refl
texts LastDecision = refl
