-- One catalogue behind all addresses, of servers that let everybody in, and none where memory is refused.
use Rattle.std.specs.Prelude.{◌≡◌, false, true}
use Rattle.session_values.specs.State.{Address, CatalogueOf}
use Rattle.link_desk.specs.Homes.{HomeOf}

-- servers that no cancel reaches
abbrev pub open_home : (Address → CatalogueOf) → HomeOf
open_home behind = record { catalogue = behind; follows = true; strikable = false; lets_in = λ name credential. true; reaches = λ address. false }

-- servers that cancels reach
abbrev pub strikable_home : (Address → CatalogueOf) → HomeOf
strikable_home behind = record (open_home behind) { strikable = true }

pub record IsEverywhere (behind : Address → CatalogueOf) (catalogue : CatalogueOf) : Type 0 where
  pub each : (address : Address) → behind address ≡ catalogue
