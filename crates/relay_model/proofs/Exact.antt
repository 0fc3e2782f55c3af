-- A lease's equation, from what it keeps.
use Rattle.std.proofs.Common.{◌≡◌, ℕ, true, false, List, [], ◌∷◌, ◌++◌, sym, ap, ◌∙◌, arith, subst}
use Rattle.std.specs.List.{AllByRecursion}
use Rattle.frame_view.specs.declared.Side.{Side}
use Rattle.frame_view.specs.Frames.{FrameOf, Stops, front}
use Rattle.frame_view.specs.declared.frames.TheConstants.{MAX_FRAME}
use Rattle.session_laws.specs.Laws.{IsSent}
use Rattle.link_model.specs.Leases as lease
use Rattle.link_model.specs.Leases.{Lease, IsUnderWay, IsFront}
use Rattle.link_model.specs.Standing.{marks_since}
use Rattle.link_model.proofs.ByName.{leases_are_exact, leases_are_fronts, spared_are_unstruck}
use Rattle.session_run_laws.proofs.Service.{service_unmarked}
use Rattle.session_values.specs.State.{CatalogueOf, StartKeyOf}
use Rattle.session_values.specs.Service.{service}
use Rattle.relay_flow.proofs.Parting.{opens_stops}
use Rattle.relay_model.specs.Leases.{RelayView, Place, IsLease, IsForwarded, IsRelayExact, IsAllowed}

pub all-sent : (limit : ℕ) (fs : List FrameOf) → AllByRecursion (IsForwarded limit) fs → AllByRecursion IsSent fs
all-sent limit [] h = tt
all-sent limit (f ∷ fs) h = (h.0.sent, all-sent limit fs h.1)

unfoldable pub lease_of : (p : Place) (v : RelayView) → IsLease p v → Lease
lease_of p v x = record {
  key = v.key;
  word = v.word;
  began = p.stands;
  link = v.link;
  sent = x.sent;
  received = x.received;
  forwarded = x.forwarded;
  tail = x.tail;
  for_link = v.to_link.held;
  for_client = v.greeting ++ (v.to_client.held ++ v.to_client.part);
  given = x.since;
}

pub under_way : (p : Place) (v : RelayView) (x : IsLease p v) → p.stands.follows ≡ true → IsUnderWay (lease_of p v x)
unfolding lease_of
under_way p v x f =
    let c = (x.clean.fresh f).stands in
    record {
      clean = c;
      moves = x.moves;
      sent = all-sent v.to_link.limit x.forwarded x.goes.went;
      in_part = subst (λ (s : Side). Stops (front s MAX_FRAME x.tail)) x.goes.flow.side_is (opens_stops v.to_link.side v.to_link.limit MAX_FRAME x.tail v.to_link.kind v.to_link.rest x.goes.flow.high (omega arith) x.goes.opens);
      on_way = x.goes.on_way;
      out = x.comes.out ∙ ap (λ (g : List ℕ). g ++ x.received) (x.greets f c.session c.is_fresh);
    }

equation : (p : Place) (v : RelayView) (x : IsLease p v) → p.stands.follows ≡ true → v.link.lives ≡ true → lease.IsExact (lease_of p v x)
unfolding lease_of
equation p v x f n = leases_are_exact (lease_of p v x) (under_way p v x f) f n

front_of : (p : Place) (v : RelayView) (x : IsLease p v) → p.stands.follows ≡ true → IsFront (lease_of p v x)
unfolding lease_of
front_of p v x f = leases_are_fronts (lease_of p v x) (under_way p v x f) f

pub lease_exact : (p : Place) (v : RelayView) → IsLease p v → v.client.tells ≡ true → v.link.follows ≡ true → v.link.lives ≡ true → IsRelayExact p v
unfolding lease_of
lease_exact p v x t f l = record {
  forwarded = x.forwarded;
  since = x.since;
  tail = x.tail;
  opens = x.goes.opens;
  went = x.goes.went;
  taken = x.goes.taken t;
  given = x.comes.given t;
  equation = equation p v x (sym x.moves.follows ∙ f) l;
}

pub lease_allowed : (p : Place) (v : RelayView) → IsLease p v → v.client.tells ≡ true → v.link.follows ≡ true → IsAllowed p v
unfolding lease_of
lease_allowed p v x t f =
    let y : IsFront (lease_of p v x) = front_of p v x (sym x.moves.follows ∙ f) in
    record {
      forwarded = x.forwarded;
      since = x.since;
      tail = x.tail;
      more = y.more;
      sent = x.sent;
      opens = x.goes.opens;
      went = x.goes.went;
      taken = x.goes.taken t;
      given = x.comes.given t;
      front = y.both;
      accepted = x.moves.accepted;
      forwards = x.goes.on_way;
    }

-- over a link that no cancel reaches it is the service that nobody cancels
pub spared_service : (p : Place) (v : RelayView) → IsLease p v → p.stands.follows ≡ true → p.stands.server.strikable ≡ false
    → (cat : CatalogueOf) (key : StartKeyOf) (pid secret : ℕ) (bytes : List ℕ) → service cat key pid secret (marks_since p.stands v.link) bytes ≡ service cat key pid secret [] bytes
spared_service p v x f e cat key pid secret bytes = service_unmarked cat key pid secret (marks_since p.stands v.link) bytes (spared_are_unstruck p.stands v.link x.sent x.received x.moves f e)

-- with what held when it began
pub lease_turn : (p : Place) (v : RelayView) → IsLease p v → p.told ≡ true → p.stands.follows ≡ true → (v.client.tells ≡ true → v.link.follows ≡ true → v.link.lives ≡ true → IsRelayExact p v) → v.link.lives ≡ true → IsRelayExact p v
lease_turn p v x t f e l = e (x.told ∙ t) (x.moves.follows ∙ f) l
