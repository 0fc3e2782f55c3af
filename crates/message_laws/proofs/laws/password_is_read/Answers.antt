use Rattle.message_view.specs.Reading.{password_of}
use Rattle.message_laws.proofs.ByteTrips.{text_again, text_alone}
use Rattle.message_laws.proofs.laws.password_is_read.Goals as goal

pub returns : goal.returns
unfolding password_of
returns c = record { again = text_again; only = text_alone }
