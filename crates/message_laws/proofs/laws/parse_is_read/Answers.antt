use Rattle.message_view.specs.Bodies.{parse_body}
use Rattle.message_view.specs.Spelled.{FitsParse}
use Rattle.message_view.specs.Reading.{parse_of, parse_at}
use Rattle.message_laws.proofs.Alone.{alone_reader}
use Rattle.message_laws.proofs.PartTrips.{parse_reads, parse_spelled}
use Rattle.message_laws.proofs.laws.parse_is_read.Goals as goal

pub returns : goal.returns
unfolding parse_of
returns c = alone_reader parse_at parse_body FitsParse parse_reads parse_spelled
