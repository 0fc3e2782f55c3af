use Rattle.message_view.specs.Bodies.{bind_body}
use Rattle.message_view.specs.Spelled.{FitsBind}
use Rattle.message_view.specs.Reading.{bind_of, bind_at}
use Rattle.message_laws.proofs.Alone.{alone_reader}
use Rattle.message_laws.proofs.BindTrips.{bind_reads, bind_spelled}
use Rattle.message_laws.proofs.laws.bind_is_read.Goals as goal

pub returns : goal.returns
unfolding bind_of
returns c = alone_reader bind_at bind_body FitsBind bind_reads bind_spelled
