use Rattle.std.proofs.Common.{◌++◌}
use Rattle.message_view.specs.Bodies.{int32}
use Rattle.message_view.specs.Spelled.{FitsKey}
use Rattle.message_view.specs.Reading.{key_of, key_at}
use Rattle.message_laws.proofs.Alone.{alone_reader}
use Rattle.message_laws.proofs.PartTrips.{key_reads, key_spelled}
use Rattle.message_laws.proofs.laws.key_is_read.Goals as goal

pub returns : goal.returns
unfolding key_of
returns c = alone_reader key_at (λ x. int32 x.0 ++ int32 x.1) FitsKey key_reads key_spelled
