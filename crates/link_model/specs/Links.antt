-- What is known of the end of a link that nobody uses, and of one that was used and is settled.
use Rattle.std.specs.Prelude.{◌≡◌, true, [], Ok}
use Rattle.session_run_laws.specs.Lawful.{IsLawfulCatalogue, IsLawfulKey}
use Rattle.session_run_laws.specs.State.{State, StartKeyOf, fresh}
use Rattle.session_run_laws.specs.Laws.{IsAtRest, Reaches}
use Rattle.link_model.specs.Stages.{Open}
use Rattle.link_model.specs.Standing.{Standing}

-- it stands in this session, with nothing under way
pub record IsIdle (at : Standing) (s : State) : Type 0 where
  pub is_open : at.stage ≡ Open s
  pub inbox : at.inbox ≡ []
  pub outbox : at.outbox ≡ []

-- Its server opened the fresh session of this key, and stands in it while it lives.
pub record IsFresh (at : Standing) (key : StartKeyOf) : Type 0 where
  pub session : State
  pub is_fresh : fresh at.server.catalogue key ≡ Ok session
  pub lawful : IsLawfulCatalogue at.server.catalogue
  pub lawful_key : IsLawfulKey key
  pub idle : at.lives ≡ true → IsIdle at session

abbrev pub IsClean : Standing → StartKeyOf → Type 0
IsClean at key = at.follows ≡ true → IsFresh at key

-- It stands at rest in a session that the key's fresh one reaches.
pub record IsResting (at : Standing) (key : StartKeyOf) : Type 0 where
  pub session : State
  pub reached : Reaches at.server.catalogue key session
  pub rests : IsAtRest session
  pub idle : IsIdle at session

abbrev pub IsUsed : Standing → StartKeyOf → Type 0
IsUsed at key = at.follows ≡ true → at.lives ≡ true → IsResting at key
