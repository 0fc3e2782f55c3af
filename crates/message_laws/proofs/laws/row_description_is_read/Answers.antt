use Rattle.message_view.specs.Bodies.{column, columns_body}
use Rattle.message_view.specs.Spelled.{FitsColumn, FitsList}
use Rattle.message_view.specs.Reading.{row_description_of, counted_at, column_at}
use Rattle.message_laws.proofs.Alone.{alone_reader}
use Rattle.message_laws.proofs.BindTrips.{column_reads, column_spelled}
use Rattle.message_laws.proofs.ListTrips.{counted_reads, counted_spelled}
use Rattle.message_laws.proofs.laws.row_description_is_read.Goals as goal

pub returns : goal.returns
unfolding row_description_of
returns c = alone_reader (λ b. counted_at column_at b) columns_body (FitsList FitsColumn) (counted_reads column_at column FitsColumn column_reads column_spelled) (counted_spelled column_at column FitsColumn column_reads column_spelled)
