-- What starts a link, and the session that the server behind it opens.
use Rattle.std.specs.Prelude.{◌≡◌, ℕ, ◌<◌, List, length}
use Rattle.message_view.specs.Bodies.{startup_body}
use Rattle.session_run_laws.specs.Lawful.{IsClientKey}
use Rattle.session_run_laws.specs.State.{StartKeyOf, CatalogueOf, fresh}
use Rattle.key_laws.specs.Keys.{key_pairs}
use Rattle.link_model.specs.Stages.{started_by}

-- what follows the code of the StartupMessage of a link with this key
abbrev pub start_body : StartKeyOf → List ℕ
start_body key = startup_body (key_pairs key)

-- The server makes of it the fresh session of that key, or refuses it as that key is refused.
abbrev pub StartsAreOfTheirKeys : Type 0
StartsAreOfTheirKeys = (cat : CatalogueOf) (key : StartKeyOf) → IsClientKey key → 0 < length key.dbname → started_by cat (start_body key) ≡ fresh cat key
