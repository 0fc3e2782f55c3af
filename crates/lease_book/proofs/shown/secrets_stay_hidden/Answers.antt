use Rattle.lease_book.proofs.Showing.{secrets_hide}
use Rattle.lease_book.proofs.shown.secrets_stay_hidden.Goals as goal

pub returns : goal.returns
returns c = secrets_hide
