use Rattle.message_view.specs.Bodies.{status_body}
use Rattle.message_view.specs.Spelled.{FitsStatus}
use Rattle.message_view.specs.Reading.{status_of, status_at}
use Rattle.message_laws.proofs.Alone.{alone_reader}
use Rattle.message_laws.proofs.PartTrips.{status_reads, status_spelled}
use Rattle.message_laws.proofs.laws.status_is_read.Goals as goal

pub returns : goal.returns
unfolding status_of
returns c = alone_reader status_at (λ x. status_body x.0 x.1) FitsStatus status_reads status_spelled
