use Rattle.std.proofs.Common.{◌≡◌, length}
use Rattle.message_view.specs.Reading.{rest_of, ended_at, field_at}
use Rattle.message_view.proofs.note_view.skip_fields.Given as goal

abbrev pub invariant-loop-field : goal.invariant-loop-field
invariant-loop-field l = rest_of (ended_at field_at l.rest) ≡ rest_of (ended_at field_at l.fn.bytes)

abbrev pub decreases-loop-field : goal.decreases-loop-field
decreases-loop-field l = length l.rest
