use Rattle.message_view.specs.Reading.{query_of}
use Rattle.message_laws.proofs.ByteTrips.{text_again, text_alone}
use Rattle.message_laws.proofs.laws.query_is_read.Goals as goal

pub returns : goal.returns
unfolding query_of
returns c = record { again = text_again; only = text_alone }
