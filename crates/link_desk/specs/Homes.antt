-- Where a desk's links lead.
use Rattle.std.specs.Prelude.{◌≡◌, Bool, true, false, []}
use Rattle.message_view.specs.Bodies.{Text}
use Rattle.session_values.specs.State.{Address, CatalogueOf, StartKeyOf, address_of}
use Rattle.credentials.specs.Credentials.{CredentialOf}
use Rattle.link_model.specs.Standing.{Standing}
use Rattle.link_start.specs.Links.{LinkView}
use Rattle.link_start.specs.Starts.{CanStart, IsLetIn}
use Rattle.link_desk.specs.declared.answers.Grant.{Grant}
use Rattle.link_desk.specs.declared.answers.Grant.TheVariants as grant

-- The catalogue that stands behind each address; whether the ends that are dialled follow their servers, and whether cancels reach
-- those; whether they let a user of this name in by this credential; and whether each dial to an address gives an end.
pub record HomeOf : Type 0 where
  pub catalogue : Address → CatalogueOf
  pub follows : Bool
  pub strikable : Bool
  pub lets_in : Text → CredentialOf → Bool
  pub reaches : Address → Bool

-- nothing is claimed of what is dialled
abbrev pub unknown_home : HomeOf
unknown_home = record { catalogue = λ address. record { version = []; databases = []; tables = [] }; follows = false; strikable = true; lets_in = λ name credential. false; reaches = λ address. false }

-- An end that was dialled to the servers of this key's address, and waits for its StartupMessage: for a start with this credential, so what
-- its server asks are questions of that.
pub record IsDialled (home : HomeOf) (dialled : StartKeyOf) (credential : CredentialOf) (at : Standing) : Type 0 where
  pub start : CanStart credential dialled.user at
  pub follows : home.follows ≡ true → at.follows ≡ true
  pub catalogue : at.follows ≡ true → at.server.catalogue ≡ home.catalogue (address_of dialled)
  pub strikable : at.follows ≡ true → at.server.strikable ≡ home.strikable
  pub lets_in : home.lets_in dialled.user credential ≡ true → IsLetIn at dialled credential

-- A link to the servers of its key's address.
pub record IsAtHome (home : HomeOf) (link : LinkView) : Type 0 where
  pub follows : home.follows ≡ true → link.stands.follows ≡ true
  pub catalogue : link.stands.follows ≡ true → link.stands.server.catalogue ≡ home.catalogue (address_of link.key)
  pub strikable : link.stands.follows ≡ true → link.stands.server.strikable ≡ home.strikable

module _ {E : Type 0} where
  -- a link that is lent is
  abbrev pub IsGrantAtHome : HomeOf → Grant E → Type 0
  IsGrantAtHome home (grant.Lend l) = IsAtHome home l
  IsGrantAtHome home _ = Unit {0}
