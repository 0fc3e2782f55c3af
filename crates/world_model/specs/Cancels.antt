-- What holds of cancels over every list of steps. Its premises stand in the steps: a cancel that came to a server strikes the next
-- statement that it takes, or none (`is_due`, `strike_passes`), and no server tells a key word that another at its place told, living or
-- ended (`IsNewKey`).
use Rattle.std.specs.Prelude.{◌≡◌, ◌⊎◌, ℕ, List, ◌∷◌, ◌++◌, Some}
use Rattle.message_view.specs.declared.views.KeyView.{KeyView}
use Rattle.world_steps.specs.Clients.{IsUnstruck, key_of}
use Rattle.world_steps.specs.Links.Role.{Lent, Gone}
use Rattle.world_steps.specs.Worlds.{HasAsked, IsFor, Strike, World}
use Rattle.world_steps.specs.Steps.{Reached}
use Rattle.world_model.specs.Headline.{HasIt}

-- Of a client whose key word nobody sent in a CancelRequest no statement was struck.
abbrev pub UnaskedAreUnstruck : Type 0
UnaskedAreUnstruck = (w : World) → Reached w → (c : ℕ) → (HasAsked w (key_of (w.clients c)) → ⊥) → IsUnstruck (w.clients c).struck

-- a cancel that was asked for the client of this key word is on its way to a link's server, or came to it and struck nothing yet
pub data IsOpen (w : World) (l : ℕ) (client : KeyView) : Type 0 where
  on_its_way : (before later : List Strike) (s : Strike) → w.strikes ≡ before ++ s ∷ later → IsFor s (w.links l) → s.client ≡ client → IsOpen w l client
  has_come : (w.links l).due ≡ Some client → IsOpen w l client

-- An open cancel at a link was asked for the client that has the link, or to which it is still lent.
abbrev pub OpenCancelsAreOwn : Type 0
OpenCancelsAreOwn = (w : World) → Reached w → (c l : ℕ) (client : KeyView) → IsOpen w l client → HasIt (w.clients c).phase l ⊎ ((w.links l).role ≡ Lent c) → key_of (w.clients c) ≡ client

pub data IsLentOrGone (w : World) (l : ℕ) : Type 0 where
  is_lent : (c : ℕ) → (w.links l).role ≡ Lent c → IsLentOrGone w l
  is_gone : (w.links l).role ≡ Gone → IsLentOrGone w l

-- A link with an open cancel is lent, or was thrown away: it is neither in reset, nor clean, nor idle, nor promised to another.
abbrev pub OpenCancelsStay : Type 0
OpenCancelsStay = (w : World) → Reached w → (l : ℕ) (client : KeyView) → IsOpen w l client → IsLentOrGone w l
