-- A lease of which bytes of one direction went on, and nothing else moved.
use Rattle.std.proofs.Common.{◌≡◌, ℕ, List, Option, ◌∙◌}
use Rattle.frame_view.specs.Frames.{FrameOf}
use Rattle.message_view.specs.declared.KeyWord.{KeyWord}
use Rattle.message_view.specs.declared.views.KeyView.{KeyView}
use Rattle.session_values.specs.State.{StartKeyOf}
use Rattle.link_model.specs.Standing.{Standing, ClientFacts}
use Rattle.relay_model.specs.Verdicts.{Told, Telling}
use Rattle.relay_model.specs.declared.Flags.{Flags}
use Rattle.relay_model.specs.declared.Phase.{Phase}
use Rattle.relay_flow.specs.Flows.{FlowView}
use Rattle.relay_model.specs.Leases.{relay_view, Place, IsLease, Goes, Comes}

module _ (p : Place) (cf : ClientFacts) (l : Standing) (k : StartKeyOf) (n : ℕ) (b : ℕ) (sk : Option KeyView) (w : KeyWord) (gr : List ℕ) (tl : FlowView) (tc : FlowView) (t : Told) (fs : Flags) (ph : Phase) (x : IsLease p (relay_view cf l k n b sk w gr tl tc t fs ph)) where
  -- to the link: these frames have gone on now, and the beginning of one more
  pub link_side : (tm : FlowView) (u : Told) (forwarded : List FrameOf) (tail : List ℕ) → tm.limit ≡ tl.limit → Goes p cf tm x.sent forwarded tail → Telling p.reports u forwarded x.arrived → IsLease p (relay_view cf l k n b sk w gr tm tc u fs ph)
  link_side tm u forwarded tail same goes tally = record {
    sent = x.sent;
    received = x.received;
    since = x.since;
    forwarded = forwarded;
    arrived = x.arrived;
    tail = tail;
    front = x.front;
    clean = x.clean;
    greets = x.greets;
    same = (x.same.0, x.same.1, x.same.2, x.same.3, same ∙ x.same.4, x.same.5, x.same.6);
    told = x.told;
    moves = x.moves;
    goes = goes;
    comes = x.comes;
    tally = tally;
    says = x.says;
  }

  -- to the client: these frames have come now, and the beginning of one more
  pub client_side : (td : FlowView) (u : Told) (arrived : List FrameOf) (front : List ℕ) → td.limit ≡ tc.limit → Comes p cf gr td x.received x.since arrived front → Telling p.reports u x.forwarded arrived → IsLease p (relay_view cf l k n b sk w gr tl td u fs ph)
  client_side td u arrived front same comes tally = record {
    sent = x.sent;
    received = x.received;
    since = x.since;
    forwarded = x.forwarded;
    arrived = arrived;
    tail = x.tail;
    front = front;
    clean = x.clean;
    greets = x.greets;
    same = (x.same.0, x.same.1, x.same.2, x.same.3, x.same.4, same ∙ x.same.5, x.same.6);
    told = x.told;
    moves = x.moves;
    goes = x.goes;
    comes = comes;
    tally = tally;
    says = x.says;
  }
