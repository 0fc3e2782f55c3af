use Rattle.message_view.specs.Bodies.{execute_body}
use Rattle.message_view.specs.Spelled.{FitsExecute}
use Rattle.message_view.specs.Reading.{execute_of, execute_at}
use Rattle.message_laws.proofs.Alone.{alone_reader}
use Rattle.message_laws.proofs.PartTrips.{execute_reads, execute_spelled}
use Rattle.message_laws.proofs.laws.execute_is_read.Goals as goal

pub returns : goal.returns
unfolding execute_of
returns c = alone_reader execute_at (λ x. execute_body x.0 x.1) FitsExecute execute_reads execute_spelled
