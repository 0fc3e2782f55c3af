-- Where the server of a lent link is.
use Rattle.std.specs.Prelude.{◌≡◌, ℕ, List, Some}
use Rattle.session_values.specs.State.{StartKeyOf}
use Rattle.book_model.specs.Book.{Book}
use Rattle.book_model.specs.Laws.{HasLink}

-- the place of a lent link: the host and port of its start key
pub record IsPlaceOf (b : Book) (link : ℕ) (host : List ℕ) (port : ℕ) : Type 0 where
  pub key : StartKeyOf
  pub is_lent : HasLink link key b.lent
  pub host_is : key.host ≡ Some host
  pub port_is : key.port ≡ port
