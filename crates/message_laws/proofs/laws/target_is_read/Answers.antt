use Rattle.message_laws.proofs.ByteTrips.{target_reader}
use Rattle.message_laws.proofs.laws.target_is_read.Goals as goal

pub returns : goal.returns
returns c = target_reader
