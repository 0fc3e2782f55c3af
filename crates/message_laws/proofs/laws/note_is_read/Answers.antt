use Rattle.std.specs.List.{AllByRecursion}
use Rattle.message_view.specs.Bodies.{fields_body}
use Rattle.message_view.specs.Spelled.{FitsField}
use Rattle.message_view.specs.Reading.{note_of, ended_at, field_at}
use Rattle.message_laws.proofs.Alone.{alone_reader}
use Rattle.message_laws.proofs.EndTrips.{fields_read, fields_spelled}
use Rattle.message_laws.proofs.laws.note_is_read.Goals as goal

pub returns : goal.returns
unfolding note_of
returns c = alone_reader (λ b. ended_at field_at b) fields_body (AllByRecursion FitsField) fields_read fields_spelled
