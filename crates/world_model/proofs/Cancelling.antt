-- What the relation says of cancels.
use Rattle.std.proofs.Common.{◌≡◌, ◌⊎◌, ℕ, inl, inr, ⊎_elim, refl, subst}
use Rattle.std.specs.List.{AllByRecursion}
use Rattle.message_view.specs.declared.views.KeyView.{KeyView}
use Rattle.world_steps.specs.Clients.{key_of}
use Rattle.world_steps.specs.Clients.Phase.{Served, Starting}
use Rattle.world_steps.specs.Links.{Role}
use Rattle.world_steps.specs.Links.Role.{Unborn, Promised, Lent, InReset, Clean, Idle, Gone}
use Rattle.world_steps.specs.Relation.{CancelsFit, IsOnItsWay, Related, StrikeFits}
use Rattle.world_steps.specs.Worlds.{World}
use Rattle.world_steps.proofs.Cancels.{at_middle, goes_there}
use Rattle.world_steps.proofs.Steps.{fits_at}
use Rattle.world_model.specs.Headline.{HasIt}
use Rattle.world_model.specs.Headline.HasIt.{awaits, is_served}
use Rattle.world_model.specs.Cancels.{IsLentOrGone, IsOpen, OpenCancelsAreOwn, OpenCancelsStay, UnaskedAreUnstruck}
use Rattle.world_model.specs.Cancels.IsLentOrGone.{is_lent, is_gone}
use Rattle.world_model.specs.Cancels.IsOpen.{on_its_way, has_come}
use Rattle.world_model.proofs.Every.{Keep, related}

-- an open cancel fits at its link
open_fits : (w : World) (l : ℕ) (client : KeyView) → CancelsFit w → IsOpen w l client → StrikeFits w l client (w.links l).role
open_fits w l client f (on_its_way before later s e h is) =
    let g = at_middle (IsOnItsWay w) before later s (subst (AllByRecursion (IsOnItsWay w)) e f.strikes) in
    subst (λ (key : KeyView). StrikeFits w l key (w.links l).role) is (goes_there w l s f g.0 h)
open_fits w l client f (has_come e) = (f.due l client e).0

by_role : (w : World) (l : ℕ) (client : KeyView) (r : Role) → (w.links l).role ≡ r → StrikeFits w l client r → IsLentOrGone w l
by_role w l client (Lent c) e h = is_lent c e
by_role w l client Gone e h = is_gone e
by_role w l client Unborn e h = absurd h
by_role w l client (Promised c) e h = absurd h
by_role w l client InReset e h = absurd h
by_role w l client Clean e h = absurd h
by_role w l client Idle e h = absurd h

-- so does the client that has the link
own_at : (w : World) (c l : ℕ) (client : KeyView) → Related w → IsOpen w l client → HasIt (w.clients c).phase l ⊎ ((w.links l).role ≡ Lent c) → key_of (w.clients c) ≡ client
own_at w c l client r o (inr e) = (subst (StrikeFits w l client) e (open_fits w l client r.cancels o)).0.key_is
own_at w c l client r o (inl (is_served e)) = (subst (StrikeFits w l client) (fits_at c (Served l) r.facts e).1 (open_fits w l client r.cancels o)).0.key_is
own_at w c l client r o (inl (awaits key e)) = absurd (subst (StrikeFits w l client) (fits_at c (Starting key l) r.facts e).1 (open_fits w l client r.cancels o))

module _ (keep : Keep) where
  pub unasked : UnaskedAreUnstruck
  unasked w h c nobody = ⊎_elim (λ none. none) (λ a. absurd (nobody a)) ((related keep h).cancels.asked c)

  pub open_own : OpenCancelsAreOwn
  open_own w h c l client o has = own_at w c l client (related keep h) o has

  pub open_stay : OpenCancelsStay
  open_stay w h l client o = by_role w l client (w.links l).role refl (open_fits w l client (related keep h).cancels o)
