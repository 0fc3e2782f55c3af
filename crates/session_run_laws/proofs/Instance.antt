-- The premises of the laws about reached sessions are met: a session that began fresh from a lawful
-- catalogue and key, and was sent two frames.
use Rattle.session_values.specs.State.{started_over}
use Rattle.std.proofs.Common.{◌≡◌, ◌≤◌, length, length-append, List, [], ◌∷◌, Some, None, Ok, true, refl, arith}
use Rattle.std.specs.Prelude.{codes, nat_lt}
use Rattle.std.specs.List.{AllByRecursion, list_all}
use Rattle.frame_view.specs.Frames.{FrameOf}
use Rattle.message_view.specs.Messages.{query}
use Rattle.mini_sql.specs.Words.{Text}
use Rattle.session_values.specs.Parameters.{accepted_of}
use Rattle.session_values.specs.State.{State, CatalogueOf, StartKeyOf, TableOf, fresh, begun}
use Rattle.session_values.specs.Step.{run_frames}
use Rattle.session_values.specs.Lawful.{IsLawfulTable, IsLawfulCatalogue, IsLawfulParameter, IsLawfulKey}
use Rattle.session_laws.specs.Laws.{IsSent, Reaches, begins}
use Rattle.session_laws.proofs.Bodies.{tested_bytes}
use Rattle.session_run_laws.proofs.ByName.{runs_stay_reached}
use Rattle.session_values.proofs.Alls.{plain-text}

abbrev city : TableOf
city = record { name = codes "city"; columns = codes "name" ∷ codes "country" ∷ []; rows = (Some (codes "Bern") ∷ Some (codes "CH") ∷ []) ∷ (Some (codes "Nuuk") ∷ None ∷ []) ∷ [] }

abbrev catalogue : CatalogueOf
catalogue = record { version = codes "16.0"; databases = codes "shop" ∷ []; tables = city ∷ [] }

abbrev key : StartKeyOf
key = record { row = codes "shop"; host = None; port = 5432; dbname = codes "shop"; user = codes "ann"; parameters = (codes "timezone", codes "Europe/Zurich") ∷ [] }

abbrev origin : State
origin = begun (codes "" ∷ codes "UTF8" ∷ codes "ISO, MDY" ∷ codes "on" ∷ codes "postgres" ∷ codes "UTF8" ∷ codes "16.0" ∷ codes "on" ∷ codes "Europe/Zurich" ∷ codes "1" ∷ codes "public" ∷ codes "0" ∷ [])

is_fresh : fresh catalogue key ≡ Ok origin
unfolding fresh started_over accepted_of
is_fresh = refl

city-lawful : IsLawfulTable city
city-lawful = record {
  width = omega arith;
  columns = ((plain-text (codes "name") refl, omega arith), ((plain-text (codes "country") refl, omega arith), tt));
  rows = ((omega arith, (omega arith, (omega arith, tt))), ((omega arith, (omega arith, (tt, tt))), tt));
}

abbrev sent : List FrameOf
sent = query (codes "SET application_name TO 'x'") ∷ query (codes "SELECT name FROM city") ∷ []

is_sent : (t : Text) → length t ≤ 1000 → list_all (λ b. nat_lt b 256) (query t).body ≡ true → IsSent (query t)
is_sent t l h = record { whole = record { of_type = refl; size = omega (arith, length-append t (0 ∷ [])) }; bytes = tested_bytes (query t).body h }

all-sent : AllByRecursion IsSent sent
all-sent = (is_sent (codes "SET application_name TO 'x'") (omega arith) refl, (is_sent (codes "SELECT name FROM city") (omega arith) refl, tt))

catalogue-lawful : IsLawfulCatalogue catalogue
catalogue-lawful = record { version = (plain-text (codes "16.0") refl, omega arith); tables = (city-lawful, tt) }

timezone-lawful : IsLawfulParameter (codes "timezone", codes "Europe/Zurich")
timezone-lawful = (record { some = omega arith; name = plain-text (codes "timezone") refl; value = plain-text (codes "Europe/Zurich") refl }, omega arith)

key-lawful : IsLawfulKey key
key-lawful = record {
  row = plain-text (codes "shop") refl;
  dbname = plain-text (codes "shop") refl;
  user = plain-text (codes "ann") refl;
  has_user = omega arith;
  has_dbname = tt;
  parameters = (timezone-lawful, tt);
  ordered = (tt, tt);
}

pub reached : Reaches catalogue key (run_frames catalogue origin [] sent).next
reached = runs_stay_reached catalogue key origin [] sent (begins catalogue-lawful key-lawful is_fresh) all-sent
