use Rattle.std.specs.List.{AllByRecursion}
use Rattle.message_view.specs.Bodies.{startup_body}
use Rattle.message_view.specs.Spelled.{FitsPair}
use Rattle.message_view.specs.Reading.{startup_of, ended_at, pair_at}
use Rattle.message_laws.proofs.Alone.{alone_reader}
use Rattle.message_laws.proofs.EndTrips.{pairs_read, pairs_spelled}
use Rattle.message_laws.proofs.laws.startup_is_read.Goals as goal

pub returns : goal.returns
unfolding startup_of
returns c = alone_reader (λ b. ended_at pair_at b) startup_body (AllByRecursion FitsPair) pairs_read pairs_spelled
