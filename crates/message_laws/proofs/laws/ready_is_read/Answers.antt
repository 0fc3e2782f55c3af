use Rattle.message_laws.proofs.ByteTrips.{ready_reader}
use Rattle.message_laws.proofs.laws.ready_is_read.Goals as goal

pub returns : goal.returns
returns c = ready_reader
