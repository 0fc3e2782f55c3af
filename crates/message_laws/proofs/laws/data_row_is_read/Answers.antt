use Rattle.message_view.specs.Bodies.{values}
use Rattle.message_view.specs.Spelled.{FitsList, FitsValue}
use Rattle.message_view.specs.Reading.{data_row_of, counted_at, value_at}
use Rattle.message_laws.proofs.Alone.{alone_reader}
use Rattle.message_laws.proofs.PartTrips.{values_read, values_spelled}
use Rattle.message_laws.proofs.laws.data_row_is_read.Goals as goal

pub returns : goal.returns
unfolding data_row_of
returns c = alone_reader (λ b. counted_at value_at b) values (FitsList FitsValue) values_read values_spelled
