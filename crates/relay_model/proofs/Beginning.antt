-- The beginning of a lease.
use Rattle.std.proofs.Common.{◌≡◌, ℕ, ◌≤◌, arith, false, List, Option, [], Result, Ok, refl, sym, ap, ◌∙◌, append-nil, subst}
use Rattle.std.specs.List.{flat_map}
use Rattle.std.proofs.lemmas.Bool.{false≢true}
use Rattle.disposal.specs.Tallies.{Tells}
use Rattle.frame_view.specs.declared.Side.{Side}
use Rattle.frame_view.specs.declared.Side.TheVariants.{Client, Server}
use Rattle.frame_view.specs.Frames.{spelling}
use Rattle.frame_view.specs.declared.frames.TheConstants.{MAX_FRAME}
use Rattle.message_view.specs.declared.KeyWord.{KeyWord}
use Rattle.message_view.specs.declared.views.KeyView.{KeyView}
use Rattle.session_values.specs.declared.cause.Cause.{Cause}
use Rattle.session_values.specs.State.{State, StartKeyOf, fresh}
use Rattle.session_values.specs.Service.{welcome}
use Rattle.link_run.proofs.Reporting.{welcome_is}
use Rattle.link_model.specs.Standing.{Standing, ClientFacts}
use Rattle.link_model.proofs.Both.{moves_none}
use Rattle.link_run.specs.Links.{LinkView}
use Rattle.link_run.specs.Receipts.{IsClean}
use Rattle.param_track.specs.KeptReports.{KeptReport}
use Rattle.relay_model.specs.Verdicts.{Told}
use Rattle.relay_model.proofs.Settling.{tells_none}
use Rattle.relay_model.specs.declared.Phase.{Phase}
use Rattle.relay_flow.specs.Flows.{FlowView, IsEmptyFlow}
use Rattle.relay_model.specs.Leases.{relay_view, place, IsLease, IsFlow, IsGreeting, greeting_of, flags_of}
use Rattle.relay_model.proofs.Flowing.{no_opens}

-- ---- the beginning

empty_flow : (s : Side) (lm : ℕ) (f : FlowView) → 4 ≤ lm → lm ≤ MAX_FRAME → IsEmptyFlow s lm f → IsFlow s f
empty_flow s lm f low high x = record { side_is = x.side_is; low = rw x.limit_is low; high = rw x.limit_is high; ended = rw x.ends tt }

abbrev link_of : Standing → StartKeyOf → ℕ → ℕ → Option KeyView → List KeptReport → LinkView
link_of l k n b sk ks = record { stands = l; key = k; number = n; started_at = b; server_key = sk; reports = ks }

same_session : (r : Result State Cause) (s t : State) → r ≡ Ok s → r ≡ Ok t → s ≡ t
same_session r s t e d = cc

-- what a clean link's reports tell a client is the welcome of its fresh session
clean_greets : (l : Standing) (k : StartKeyOf) (sk : Option KeyView) (ks : List KeptReport) (w : KeyWord) → IsClean l k sk ks → IsGreeting l k w (greeting_of ks w)
clean_greets l k sk ks w c f s e =
    let x = c.fresh f in
    let z : State = x.stands.session in
    ap (λ (kept : List KeptReport). greeting_of kept w) x.kept ∙ ap (flat_map spelling) (welcome_is z w.pid w.secret)
    ∙ ap (λ (t : State). flat_map spelling (welcome t w.pid w.secret)) (same_session (fresh l.server.catalogue k) z s x.stands.is_fresh e)

lease_begun : (cf : ClientFacts) (l : Standing) (k : StartKeyOf) (n b : ℕ) (sk : Option KeyView) (w : KeyWord) (tl tc : FlowView) (t : Told) (ph : Phase) (lm : ℕ)
    → IsClean l k sk t.reports → 4 ≤ lm → lm ≤ MAX_FRAME → IsEmptyFlow Client lm tl → IsEmptyFlow Server lm tc → Tells t.tally [] []
    → IsLease (place cf (link_of l k n b sk t.reports) w lm) (relay_view cf l k n b sk w (greeting_of t.reports w) tl tc t (flags_of false false false false) ph)
lease_begun cf l k n b sk w tl tc t ph lm c low high x y z = record {
  sent = [];
  received = [];
  since = [];
  forwarded = [];
  arrived = [];
  tail = [];
  front = [];
  clean = c;
  greets = clean_greets l k sk t.reports w c;
  same = (refl, refl, refl, refl, x.limit_is, y.limit_is, refl);
  told = refl;
  moves = moves_none l;
  goes = record {
    flow = empty_flow Client lm tl low high x;
    opens = no_opens tl x.rest;
    tail_bytes = λ i. omega arith;
    went = tt;
    on_way = x.held;
    taken = λ z. rw x.part (sym (append-nil cf.taken));
  };
  comes = record {
    flow = empty_flow Server lm tc low high y;
    opens = no_opens tc y.rest;
    came = tt;
    given = λ z. sym (append-nil cf.given);
    out = rw (y.held, y.part) refl;
    whole = sym y.part;
  };
  tally = tells_none t.reports t z refl;
  says = record {
    client_faults = omega arith;
    link_faults = omega arith;
    client_over = λ z. absurd (false≢true z);
    input_over = λ z. absurd (false≢true z);
    link_over = λ z. absurd (false≢true z);
    unfaulted = λ z. refl;
    untouched = λ z. (refl, refl);
    touched = λ z. absurd (false≢true z);
  };
}

link_is : (lk : LinkView) (l : Standing) (k : StartKeyOf) (n b : ℕ) (sk : Option KeyView) (ks : List KeptReport) → l ≡ lk.stands → k ≡ lk.key → n ≡ lk.number → b ≡ lk.started_at → sk ≡ lk.server_key → ks ≡ lk.reports → link_of l k n b sk ks ≡ lk
link_is lk l k n b sk ks e d f g s r = rw (e, d, f, g, s, r) refl

-- A lease of this link begins, whose client is to be given what its reports tell.
pub lease_begun_at : (lk : LinkView) (cf : ClientFacts) (l : Standing) (k : StartKeyOf) (n b : ℕ) (sk : Option KeyView) (w : KeyWord) (gr : List ℕ) (tl tc : FlowView) (t : Told) (ph : Phase) (lm : ℕ)
    → l ≡ lk.stands → k ≡ lk.key → n ≡ lk.number → b ≡ lk.started_at → sk ≡ lk.server_key → t.reports ≡ lk.reports → gr ≡ greeting_of lk.reports w
    → IsClean l k sk t.reports → 4 ≤ lm → lm ≤ MAX_FRAME → IsEmptyFlow Client lm tl → IsEmptyFlow Server lm tc → Tells t.tally [] []
    → IsLease (place cf lk w lm) (relay_view cf l k n b sk w gr tl tc t (flags_of false false false false) ph)
lease_begun_at lk cf l k n b sk w gr tl tc t ph lm e d f h s r g c low high x y z =
    subst (λ (a : List ℕ). IsLease (place cf lk w lm) (relay_view cf l k n b sk w a tl tc t (flags_of false false false false) ph)) (ap (λ (ks : List KeptReport). greeting_of ks w) r ∙ sym g)
    (subst (λ (a : LinkView). IsLease (place cf a w lm) (relay_view cf l k n b sk w (greeting_of t.reports w) tl tc t (flags_of false false false false) ph)) (link_is lk l k n b sk t.reports e d f h s r) (lease_begun cf l k n b sk w tl tc t ph lm c low high x y z))
