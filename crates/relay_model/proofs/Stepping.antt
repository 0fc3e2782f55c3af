-- What each move counts, and why a pump waits.
use Rattle.std.proofs.Common.{◌≡◌, ◌≢◌, ℕ, ◌+◌, ◌<◌, ◌≤◌, Bool, true, false, cond, List, Option, [], ◌∷◌, ◌++◌, length, refl, sym, ap, ap₂, ◌∙◌, arith, length-append, append-nil, subst, drop}
use Rattle.std.specs.Prelude.{◌||◌, ◌&&◌, ◌==◌, not}
use Rattle.std.proofs.lemmas.Bool.{true≢false, false≢true}
use Rattle.relay_model.specs.Verdicts.{Told}
use Rattle.message_view.specs.declared.KeyWord.{KeyWord}
use Rattle.message_view.specs.declared.views.KeyView.{KeyView}
use Rattle.session_values.specs.State.{StartKeyOf}
use Rattle.server_end.specs.declared.Moved.{Moved}
use Rattle.server_end.specs.declared.Moved.TheVariants.{Count, NotNow, Ended, Fault}
use Rattle.server_end.specs.Moves.{faults_in, waits_in}
use Rattle.link_model.specs.Standing.{Standing, ClientFacts, Moves}
use Rattle.server_end.specs.Moves.{CountsRead, CountsWrite, ClientReads, ClientWrites}
use Rattle.relay_model.specs.declared.Flags.{Flags}
use Rattle.relay_model.specs.declared.Phase.{Phase}
use Rattle.relay_model.specs.declared.Next.{Next}
use Rattle.relay_model.specs.declared.Next.TheVariants.{Again, Wait, ClientDone}
use Rattle.relay_flow.specs.Flows.{FlowView, SameCursor, came, count_of, Fills, IsPositive, is_faulty, is_last_end, is_open, is_empty}
use Rattle.relay_model.specs.Leases.{RelayView, relay_view, any_over, is_end, is_fault, link_moved, client_read, client_wrote}
use Rattle.relay_model.specs.Answers.{is_quiet, judged, moved_or, quiet_next}
use Rattle.relay_model.specs.Steps.{bytes_moved, Adds, HasRoom, over_in, StaysOver, may_read_client, may_read_link, may_write_link, may_write_client, IsStuck, IsStuckClient, HoldsAll, OnlyToLink, OnlyToClient, ReadsClient, WritesLink, ReadsLink, WritesClient, LeavesSides, StopsLink, IsOnce, Waits}
use Rattle.relay_model.proofs.Moving.{Writes, Gives}
use Rattle.relay_model.proofs.Judging.{means}

-- ---- flags

or_false : (a b : Bool) → (a || b) ≡ false → (a ≡ false) × (b ≡ false)
or_false true b e = absurd (true≢false e)
or_false false b e = (refl, e)

or_none : (a b : Bool) → a ≡ false → b ≡ false → (a || b) ≡ false
or_none true b e h = absurd (true≢false e)
or_none false b e h = h

any_kept : (f g : Flags) → StaysOver f g → any_over g ≡ false → any_over f ≡ false
any_kept f g k e =
    let a = or_false g.client_over (g.input_over || g.link_over) e in
    let b = or_false g.input_over g.link_over a.1 in
    or_none f.client_over (f.input_over || f.link_over) (k.client a.0) (or_none f.input_over f.link_over (k.input b.0) (k.link b.1))

kept_same : (f : Flags) → StaysOver f f
kept_same f = record { client = λ h. h; input = λ h. h; link = λ h. h }

both_of : (a b : Bool) → (a && b) ≡ true → (a ≡ true) × (b ≡ true)
both_of true b e = (refl, e)
both_of false b e = absurd (false≢true e)

is_ready : (ready more : Bool) → (ready && more) ≡ true → ready ≡ true
is_ready ready more e = (both_of ready more e).0

first_false : (a b c : Bool) → c ≡ (a || b) → c ≡ false → a ≡ false
first_false a b c e h = (or_false a b (sym e ∙ h)).0

second_false : (a b c : Bool) → c ≡ (a || b) → c ≡ false → b ≡ false
second_false a b c e h = (or_false a b (sym e ∙ h)).1

kept_link : (f g : Flags) (m : Moved) → g ≡ link_moved f m → StaysOver f g
kept_link f g m e = record {
  client = λ h. sym (ap (λ (x : Flags). x.client_over) e) ∙ h;
  input = λ h. sym (ap (λ (x : Flags). x.input_over) e) ∙ h;
  link = λ h. first_false f.link_over (over_in m) g.link_over (ap (λ (x : Flags). x.link_over) e) h;
}

over_link : (f g : Flags) (m : Moved) → g ≡ link_moved f m → g.link_over ≡ false → over_in m ≡ false
over_link f g m e h = second_false f.link_over (over_in m) g.link_over (ap (λ (x : Flags). x.link_over) e) h

over_any_link : (f g : Flags) (m : Moved) → g ≡ link_moved f m → any_over g ≡ false → over_in m ≡ false
over_any_link f g m e h = over_link f g m e (or_false g.input_over g.link_over (or_false g.client_over (g.input_over || g.link_over) h).1).1

kept_read : (f g : Flags) (m : Moved) → g ≡ client_read f m → StaysOver f g
kept_read f g m e = record {
  client = λ h. first_false f.client_over (is_fault m) g.client_over (ap (λ (x : Flags). x.client_over) e) h;
  input = λ h. first_false f.input_over (is_end m) g.input_over (ap (λ (x : Flags). x.input_over) e) h;
  link = λ h. sym (ap (λ (x : Flags). x.link_over) e) ∙ h;
}

over_read : (f g : Flags) (m : Moved) → g ≡ client_read f m → any_over g ≡ false → over_in m ≡ false
over_read f g m e h =
    let a = or_false g.client_over (g.input_over || g.link_over) h in
    let b = or_false g.input_over g.link_over a.1 in
    or_none (is_end m) (is_fault m) (second_false f.input_over (is_end m) g.input_over (ap (λ (x : Flags). x.input_over) e) b.0) (second_false f.client_over (is_fault m) g.client_over (ap (λ (x : Flags). x.client_over) e) a.0)

kept_wrote : (f g : Flags) (m : Moved) → g ≡ client_wrote f m → StaysOver f g
kept_wrote f g m e = record {
  client = λ h. first_false f.client_over (over_in m) g.client_over (ap (λ (x : Flags). x.client_over) e) h;
  input = λ h. sym (ap (λ (x : Flags). x.input_over) e) ∙ h;
  link = λ h. sym (ap (λ (x : Flags). x.link_over) e) ∙ h;
}

over_wrote : (f g : Flags) (m : Moved) → g ≡ client_wrote f m → g.client_over ≡ false → over_in m ≡ false
over_wrote f g m e h = second_false f.client_over (over_in m) g.client_over (ap (λ (x : Flags). x.client_over) e) h

unfaulted_read : (f g : Flags) (m : Moved) → g ≡ client_read f m → g.client_over ≡ false → is_fault m ≡ false
unfaulted_read f g m e h = second_false f.client_over (is_fault m) g.client_over (ap (λ (x : Flags). x.client_over) e) h

unfaulted_wrote : (f g : Flags) (m : Moved) → g ≡ client_wrote f m → g.client_over ≡ false → is_fault m ≡ false
unfaulted_wrote f g m e h = (or_false (is_end m) (is_fault m) (over_wrote f g m e h)).1

-- ---- counts

grown : (a b c : List ℕ) (n : ℕ) → a ≡ b ++ c → length c ≡ n → length a ≡ length b + n
grown a b c n e l = ap length e ∙ length-append b c ∙ ap (λ (k : ℕ). length b + k) l

at_most_one : (m : Moved) (a b : ℕ) → a ≡ b + waits_in m → a ≤ b + 1
at_most_one (Count n) a b e = omega (arith, e)
at_most_one NotNow a b e = omega (arith, e)
at_most_one Ended a b e = omega (arith, e)
at_most_one Fault a b e = omega (arith, e)

faultless : (m : Moved) (a b : ℕ) → a ≡ b + faults_in m → is_fault m ≡ false → a ≡ b
faultless (Count n) a b e h = omega (arith, e)
faultless NotNow a b e h = omega (arith, e)
faultless Ended a b e h = omega (arith, e)
faultless Fault a b e h = absurd (true≢false h)

one_wait : (m : Moved) (a b : ℕ) → a ≡ b + waits_in m → m ≡ NotNow → a ≡ b + 1
one_wait m a b e h = e ∙ ap (λ (k : Moved). b + waits_in k) h

same_adds : (v : RelayView) → Adds v v 0
same_adds v = record { adds = λ t. omega arith; tells = refl }

same_stuck : (a b : FlowView) → SameCursor a b → b.part ≡ a.part → IsStuck a → IsStuck b
same_stuck a b q p s o =
    let x = s (ap is_open (sym q.ends) ∙ o) in
    record { border = λ e. rw (q.side, q.limit, p) (x.border (sym q.rest ∙ e)); inside = λ h. p ∙ x.inside (subst (λ (n : ℕ). 0 < n) q.rest h) }

none_left : (held put rest : List ℕ) (m : Moved) → held ≡ put ++ rest → length put ≡ count_of m → m ≡ NotNow → rest ≡ held
none_left held [] rest m e l h = sym e
none_left held (b ∷ put) rest m e l h = absurd (omega (arith, l, ap count_of h))

pub steps_read_client : (ready : Bool) (v : RelayView) (cf cg : ClientFacts) (l : Standing) (k : StartKeyOf) (n b : ℕ) (sk : Option KeyView) (w : KeyWord) (gr : List ℕ) (tl tn tm tc : FlowView) (t : Told) (fs fz : Flags) (ph : Phase) (r : Moved)
    → may_read_client ready v ≡ true → relay_view cf l k n b sk w gr tl tc t fs ph ≡ v → IsPositive r → Fills tn tm r → ClientReads cf cg (came tn tm) r → fz ≡ client_read fs r
    → ReadsClient ready v (relay_view cg l k n b sk w gr tm tc t fz ph) r
steps_read_client ready v cf cg l k n b sk w gr tl tn tm tc t fs fz ph r o e i f y q =
    subst (λ (u : RelayView). ReadsClient ready u (relay_view cg l k n b sk w gr tm tc t fz ph) r) e (record {
      positive = i;
      adds = record {
        adds = λ z. let a : length cg.taken ≡ length cf.taken + count_of r = grown cg.taken cf.taken (came tn tm) (count_of r) (y.taken z) f.count in
            let g : length cg.given ≡ length cf.given = ap length (y.given z) in omega (arith, a, g);
        tells = y.tells;
      };
      link = refl;
      greeting = refl;
      to_client = refl;
      untouched = λ h. absurd (true≢false (sym (is_ready ready _ o) ∙ h));
      writes = y.write_waits;
      once = at_most_one r cg.read_waits cf.read_waits y.read_waits;
      kept = kept_read fs fz r q;
      over = over_read fs fz r q;
      unfaulted = λ h. faultless r cg.faults cf.faults y.faults (unfaulted_read fs fz r q h);
      reads = λ x z h. one_wait r cg.read_waits cf.read_waits y.read_waits h;
    })

-- no read, for a reason
pub no_read_client : (ready : Bool) (v w : RelayView) → w.client ≡ v.client → w.link ≡ v.link → w.greeting ≡ v.greeting → w.to_client ≡ v.to_client → w.flags ≡ v.flags → (may_read_client ready v ≡ true → HasRoom v.to_link → ⊥) → ReadsClient ready v w NotNow
no_read_client ready v w c l g d f never = record {
  positive = tt;
  adds = record { adds = λ z. same_moved c l g d; tells = ap (λ (x : ClientFacts). x.tells) c };
  link = l;
  greeting = g;
  to_client = d;
  untouched = λ h. c;
  writes = ap (λ (x : ClientFacts). x.write_waits) c;
  once = omega (arith, ap (λ (x : ClientFacts). x.read_waits) c);
  kept = subst (StaysOver v.flags) (sym f) (kept_same v.flags);
  over = λ h. refl;
  unfaulted = λ h. ap (λ (x : ClientFacts). x.faults) c;
  reads = λ x z h. absurd (never x z);
}
  where
    same_moved : w.client ≡ v.client → w.link ≡ v.link → w.greeting ≡ v.greeting → w.to_client ≡ v.to_client → bytes_moved w ≡ bytes_moved v + 0
    same_moved c l g d = rw (c, l, g, d) (omega arith)

pub steps_read_link : (ready : Bool) (v : RelayView) (cf : ClientFacts) (l m : Standing) (k : StartKeyOf) (n b : ℕ) (sk : Option KeyView) (w : KeyWord) (gr : List ℕ) (tl tc tn td : FlowView) (t : Told) (fs fz : Flags) (ph : Phase) (r : Moved)
    → may_read_link ready v ≡ true → relay_view cf l k n b sk w gr tl tc t fs ph ≡ v → IsPositive r → tn.held ≡ tc.held → tn.part ≡ tc.part → Fills tn td r → Moves l [] m (came tn td) → CountsRead l m r → fz ≡ link_moved fs r
    → ReadsLink ready v (relay_view cf m k n b sk w gr tl td t fz ph) r
steps_read_link ready v cf l m k n b sk w gr tl tc tn td t fs fz ph r o e i h p f y z q =
    subst (λ (u : RelayView). ReadsLink ready u (relay_view cf m k n b sk w gr tl td t fz ph) r) e (record {
      positive = i;
      adds = record {
        adds = λ _. let a : length m.accepted ≡ length l.accepted + 0 = grown m.accepted l.accepted [] 0 y.accepted refl in
            let c : length td.part ≡ length tn.part + count_of r = grown td.part tn.part (came tn td) (count_of r) f.part f.count in
            let d : length td.held ≡ length tn.held = ap length f.held in
            let x : length tn.held ≡ length tc.held = ap length h in
            let g : length tn.part ≡ length tc.part = ap length p in omega (arith, a, c, d, x, g);
        tells = refl;
      };
      client = refl;
      greeting = refl;
      to_link = refl;
      untouched = λ h. absurd (true≢false (sym (ap (may_read_link ready) e ∙ o) ∙ h));
      accepted = y.accepted ∙ append-nil l.accepted;
      writes = z.write_waits;
      once = at_most_one r m.read_waits l.read_waits z.read_waits;
      kept = kept_link fs fz r q;
      over = over_any_link fs fz r q;
      reads = λ x c h. one_wait r m.read_waits l.read_waits z.read_waits h;
    })

pub no_read_link : (ready : Bool) (v w : RelayView) → w.client ≡ v.client → w.link ≡ v.link → w.greeting ≡ v.greeting → w.to_link ≡ v.to_link → w.to_client.held ≡ v.to_client.held → w.to_client.part ≡ v.to_client.part → w.flags ≡ v.flags → (may_read_link ready v ≡ true → HasRoom v.to_client → ⊥) → ReadsLink ready v w NotNow
no_read_link ready v w c l g d h p f never = record {
  positive = tt;
  adds = record { adds = λ z. rw (c, l, g, h, p) (omega arith); tells = ap (λ (x : ClientFacts). x.tells) c };
  client = c;
  greeting = g;
  to_link = d;
  untouched = λ x. l;
  accepted = ap (λ (x : Standing). x.accepted) l;
  writes = ap (λ (x : Standing). x.write_waits) l;
  once = omega (arith, ap (λ (x : Standing). x.read_waits) l);
  kept = subst (StaysOver v.flags) (sym f) (kept_same v.flags);
  over = λ x. refl;
  reads = λ x z y. absurd (never x z);
}

pub steps_write_link : (v : RelayView) (cf : ClientFacts) (l m : Standing) (k : StartKeyOf) (n b : ℕ) (sk : Option KeyView) (w : KeyWord) (gr : List ℕ) (tl tm tc : FlowView) (t : Told) (fs fz : Flags) (ph : Phase) (put : List ℕ) (r : Moved)
    → may_write_link true v ≡ true → relay_view cf l k n b sk w gr tl tc t fs ph ≡ v → IsPositive r → Writes tl tm put r → Moves l put m [] → CountsWrite l m r → fz ≡ link_moved fs r
    → WritesLink true v (relay_view cf m k n b sk w gr tm tc t fz ph) r
steps_write_link v cf l m k n b sk w gr tl tm tc t fs fz ph put r o e i f y z q =
    subst (λ (u : RelayView). WritesLink true u (relay_view cf m k n b sk w gr tm tc t fz ph) r) e (record {
      positive = i;
      adds = record {
        adds = λ _. let a : length m.accepted ≡ length l.accepted + count_of r = grown m.accepted l.accepted put (count_of r) y.accepted f.count in omega (arith, a);
        tells = refl;
      };
      client = refl;
      greeting = refl;
      to_client = refl;
      ends = f.cursor.ends;
      stuck = same_stuck tl tm f.cursor f.part;
      untouched = λ h. absurd (true≢false (sym (ap (may_write_link true) e ∙ o) ∙ h));
      reads = z.read_waits;
      once = at_most_one r m.write_waits l.write_waits z.write_waits;
      kept = kept_link fs fz r q;
      over = over_link fs fz r q;
      still = none_left tl.held put tm.held r f.held f.count;
      writes = λ x h. one_wait r m.write_waits l.write_waits z.write_waits h;
    })

pub no_write_link : (ready : Bool) (v : RelayView) → may_write_link ready v ≡ false → WritesLink ready v v NotNow
no_write_link ready v never = record {
  positive = tt;
  adds = same_adds v;
  client = refl;
  greeting = refl;
  to_client = refl;
  ends = refl;
  stuck = λ s. s;
  untouched = λ h. refl;
  reads = refl;
  once = omega arith;
  kept = kept_same v.flags;
  over = λ x. refl;
  still = λ x. refl;
  writes = λ x h. absurd (false≢true (sym never ∙ x));
}

pub steps_write_client : (v : RelayView) (cf cg : ClientFacts) (l : Standing) (k : StartKeyOf) (n b : ℕ) (sk : Option KeyView) (w : KeyWord) (gr : List ℕ) (tl tc td : FlowView) (t : Told) (fs fz : Flags) (ph : Phase) (put : List ℕ) (r : Moved)
    → relay_view cf l k n b sk w gr tl tc t fs ph ≡ v → IsPositive r → Writes tc td put r → ClientWrites cf cg put r → fz ≡ client_wrote fs r
    → WritesClient true v (relay_view cg l k n b sk w gr tl td t fz ph) r
steps_write_client v cf cg l k n b sk w gr tl tc td t fs fz ph put r e i f y q =
    subst (λ (u : RelayView). WritesClient true u (relay_view cg l k n b sk w gr tl td t fz ph) r) e (record {
      positive = i;
      adds = record {
        adds = λ z. let a : length cg.given ≡ length cf.given + count_of r = grown cg.given cf.given put (count_of r) (y.given z) f.count in
            let g : length cg.taken ≡ length cf.taken = ap length (y.taken z) in
            let h : length tc.held ≡ length put + length td.held = ap length f.held ∙ length-append put td.held in
            let p : length td.part ≡ length tc.part = ap length f.part in
            let c : length put ≡ count_of r = f.count in omega (arith, a, g, h, p, c);
        tells = y.tells;
      };
      link = refl;
      to_link = refl;
      stuck = λ s o. same_stuck tc td f.cursor f.part (s (ap (λ (x : ℕ). is_faulty tl.ends && (x == 0)) (sym f.cursor.rest) ∙ o));
      untouched = λ h. absurd (true≢false h);
      reads = y.read_waits;
      once = at_most_one r cg.write_waits cf.write_waits y.write_waits;
      kept = kept_wrote fs fz r q;
      over = over_wrote fs fz r q;
      unfaulted = λ h. faultless r cg.faults cf.faults y.faults (unfaulted_wrote fs fz r q h);
      still = λ h. ap (λ (x : List ℕ). is_empty gr && is_empty x) (none_left tc.held put td.held r f.held f.count h);
      writes = λ x h. one_wait r cg.write_waits cf.write_waits y.write_waits h;
    })

pub steps_write_welcome : (v : RelayView) (cf cg : ClientFacts) (l : Standing) (k : StartKeyOf) (n b : ℕ) (sk : Option KeyView) (w : KeyWord) (gr gs : List ℕ) (tl tc : FlowView) (t : Told) (fs fz : Flags) (ph : Phase) (put : List ℕ) (r : Moved)
    → relay_view cf l k n b sk w gr tl tc t fs ph ≡ v → IsPositive r → Gives gr gs put r → ClientWrites cf cg put r → fz ≡ client_wrote fs r
    → WritesClient true v (relay_view cg l k n b sk w gs tl tc t fz ph) r
steps_write_welcome v cf cg l k n b sk w gr gs tl tc t fs fz ph put r e i f y q =
    subst (λ (u : RelayView). WritesClient true u (relay_view cg l k n b sk w gs tl tc t fz ph) r) e (record {
      positive = i;
      adds = record {
        adds = λ z. let a : length cg.given ≡ length cf.given + count_of r = grown cg.given cf.given put (count_of r) (y.given z) f.count in
            let g : length cg.taken ≡ length cf.taken = ap length (y.taken z) in
            let h : length gr ≡ length put + length gs = ap length f.both ∙ length-append put gs in
            let c : length put ≡ count_of r = f.count in omega (arith, a, g, h, c);
        tells = y.tells;
      };
      link = refl;
      to_link = refl;
      stuck = λ s. s;
      untouched = λ h. absurd (true≢false h);
      reads = y.read_waits;
      once = at_most_one r cg.write_waits cf.write_waits y.write_waits;
      kept = kept_wrote fs fz r q;
      over = over_wrote fs fz r q;
      unfaulted = λ h. faultless r cg.faults cf.faults y.faults (unfaulted_wrote fs fz r q h);
      still = λ h. ap (λ (x : List ℕ). is_empty x && is_empty tc.held) (none_left gr put gs r f.both f.count h);
      writes = λ x h. one_wait r cg.write_waits cf.write_waits y.write_waits h;
    })

pub no_write_client : (ready : Bool) (v : RelayView) → may_write_client ready v ≡ false → WritesClient ready v v NotNow
no_write_client ready v never = record {
  positive = tt;
  adds = same_adds v;
  link = refl;
  to_link = refl;
  stuck = λ s. s;
  untouched = λ h. refl;
  reads = refl;
  once = omega arith;
  kept = kept_same v.flags;
  over = λ x. refl;
  unfaulted = λ h. refl;
  still = λ x. refl;
  writes = λ x h. absurd (false≢true (sym never ∙ x));
}

-- where the side is ready
pub ready_link : (ready : Bool) (v w : RelayView) (m : Moved) → may_write_link ready v ≡ true → WritesLink true v w m → WritesLink ready v w m
ready_link ready v w m e = subst (λ (r : Bool). WritesLink r v w m) (sym (is_ready ready _ e))

pub ready_client : (ready : Bool) (v w : RelayView) (m : Moved) → may_write_client ready v ≡ true → WritesClient true v w m → WritesClient ready v w m
ready_client ready v w m e = subst (λ (r : Bool). WritesClient r v w m) (sym (is_ready ready _ e))

-- ---- then what goes on

pub reads_then_link : (r : Bool) (u v w : RelayView) (m : Moved) → ReadsClient r u v m → OnlyToLink v w → ReadsClient r u w m
reads_then_link r u v w m x o = record {
  positive = x.positive;
  adds = record { adds = λ t. rw (o.client, o.link, o.greeting, o.to_client) (x.adds.adds t); tells = ap (λ (c : ClientFacts). c.tells) o.client ∙ x.adds.tells };
  link = o.link ∙ x.link;
  greeting = o.greeting ∙ x.greeting;
  to_client = o.to_client ∙ x.to_client;
  untouched = λ h. o.client ∙ x.untouched h;
  writes = ap (λ (c : ClientFacts). c.write_waits) o.client ∙ x.writes;
  once = omega (arith, ap (λ (c : ClientFacts). c.read_waits) o.client, x.once);
  kept = subst (StaysOver u.flags) (sym o.flags) x.kept;
  over = λ h. x.over (ap any_over (sym o.flags) ∙ h);
  unfaulted = λ h. ap (λ (c : ClientFacts). c.faults) o.client ∙ x.unfaulted (ap (λ (f : Flags). f.client_over) (sym o.flags) ∙ h);
  reads = λ a b h. ap (λ (c : ClientFacts). c.read_waits) o.client ∙ x.reads a b h;
}

pub reads_then_client : (r : Bool) (u v w : RelayView) (m : Moved) → ReadsLink r u v m → OnlyToClient v w → ReadsLink r u w m
reads_then_client r u v w m x o = record {
  positive = x.positive;
  adds = record { adds = λ t. let y = x.adds.adds t in let z : bytes_moved w ≡ bytes_moved v = rw (o.client, o.link, o.greeting) (omega (arith, o.there)) in z ∙ y; tells = ap (λ (c : ClientFacts). c.tells) o.client ∙ x.adds.tells };
  client = o.client ∙ x.client;
  greeting = o.greeting ∙ x.greeting;
  to_link = o.to_link ∙ x.to_link;
  untouched = λ h. o.link ∙ x.untouched h;
  accepted = ap (λ (c : Standing). c.accepted) o.link ∙ x.accepted;
  writes = ap (λ (c : Standing). c.write_waits) o.link ∙ x.writes;
  once = omega (arith, ap (λ (c : Standing). c.read_waits) o.link, x.once);
  kept = subst (StaysOver u.flags) (sym o.flags) x.kept;
  over = λ h. x.over (ap any_over (sym o.flags) ∙ h);
  reads = λ a b h. ap (λ (c : Standing). c.read_waits) o.link ∙ x.reads a b h;
}

-- ---- a whole pump

not_now : (m : Moved) → IsPositive m → count_of m ≡ 0 → over_in m ≡ false → m ≡ NotNow
not_now (Count n) i e o = absurd (omega (arith, i, e))
not_now NotNow i e o = refl
not_now Ended i e o = absurd (true≢false o)
not_now Fault i e o = absurd (true≢false o)

all_true : (a b : Bool) → a ≡ true → b ≡ true → (a && b) ≡ true
all_true true b e h = h
all_true false b e h = absurd (false≢true e)

not_of : (a : Bool) → a ≡ false → not a ≡ true
not_of true e = absurd (true≢false e)
not_of false e = refl

some_held : (bytes : List ℕ) → bytes ≢ [] → is_empty bytes ≡ false
some_held [] h = absurd (h refl)
some_held (b ∷ bytes) h = by (length (b ∷ bytes) == 0) refl
  where
    by : (x : Bool) → (length (b ∷ bytes) == 0) ≡ x → (length (b ∷ bytes) == 0) ≡ false
    by true e = absurd (omega (arith, Rattle.std.proofs.Common.eqb-true (length (b ∷ bytes)) 0 e))
    by false e = e

and_false : (a : Bool) → (a && false) ≡ false
and_false true = refl
and_false false = refl

not_ready : (ready more : Bool) → ready ≡ false → (ready && more) ≡ false
not_ready true more e = absurd (true≢false e)
not_ready false more e = refl

over_stays : (f g : Flags) → StaysOver f g → f.link_over ≡ true → g.link_over ≡ true
over_stays f g k h = by g.link_over refl
  where
    by : (o : Bool) → g.link_over ≡ o → g.link_over ≡ true
    by true e = e
    by false e = absurd (true≢false (sym h ∙ k.link e))

any_by_link : (f : Flags) → f.link_over ≡ true → any_over f ≡ true
any_by_link f h = or_true f.client_over (f.input_over || f.link_over) (or_true f.input_over f.link_over h)
  where
    or_true : (a b : Bool) → b ≡ true → (a || b) ≡ true
    or_true true b e = refl
    or_true false b e = e

no_write_over : (ready : Bool) (v : RelayView) → v.flags.link_over ≡ true → may_write_link ready v ≡ false
no_write_over ready v h = ap (λ (o : Bool). ready && (not o && (not (is_faulty v.to_link.ends) && not (is_empty v.to_link.held)))) h ∙ and_false ready

no_write_faulty : (ready : Bool) (v : RelayView) → is_faulty v.to_link.ends ≡ true → may_write_link ready v ≡ false
no_write_faulty ready v h = ap (λ (f : Bool). ready && (not v.flags.link_over && (not f && not (is_empty v.to_link.held)))) h ∙ (ap (λ (o : Bool). ready && o) (and_false (not v.flags.link_over)) ∙ and_false ready)

no_read_over : (ready : Bool) (v : RelayView) → v.flags.link_over ≡ true → may_read_link ready v ≡ false
no_read_over ready v h = ap (λ (o : Bool). ready && (not o && (is_open v.to_client.ends && is_empty v.greeting))) (any_by_link v.flags h) ∙ and_false ready

module _ (cr sr : Bool) (v a b c w : RelayView) (m n o p : Moved) (x : ReadsClient cr v a m) (y : WritesLink sr a b n) (z : ReadsLink sr b c o) (u : WritesClient cr c w p) where
  pub moved_all : v.client.tells ≡ true → bytes_moved w ≡ bytes_moved v + (count_of m + (count_of n + (count_of o + count_of p)))
  moved_all t =
      let ta : a.client.tells ≡ true = x.adds.tells ∙ t in
      let tb : b.client.tells ≡ true = y.adds.tells ∙ ta in
      let tc : c.client.tells ≡ true = z.adds.tells ∙ tb in
      omega (arith, x.adds.adds t, y.adds.adds ta, z.adds.adds tb, u.adds.adds tc)

  pub waits_all : count_of m + (count_of n + (count_of o + count_of p)) ≡ 0 → w.flags.client_over ≡ false → Waits cr sr v w
  waits_all e f =
      let any_c : any_over w.flags ≡ false → any_over c.flags ≡ false = any_kept c.flags w.flags u.kept in
      let any_b : any_over w.flags ≡ false → any_over b.flags ≡ false = λ h. any_kept b.flags c.flags z.kept (any_c h) in
      let any_a : any_over w.flags ≡ false → any_over a.flags ≡ false = λ h. any_kept a.flags b.flags y.kept (any_b h) in
      let any_v : any_over w.flags ≡ false → any_over v.flags ≡ false = λ h. any_kept v.flags a.flags x.kept (any_a h) in
      record {
        client_read = λ r h i k.
            u.reads ∙ ap (λ (q : ClientFacts). q.read_waits) (z.client ∙ y.client)
            ∙ x.reads (all_true cr (not (any_over v.flags) && is_open v.to_link.ends) r (all_true (not (any_over v.flags)) (is_open v.to_link.ends) (not_of (any_over v.flags) (any_v h)) i)) k (not_now m x.positive (omega (arith, e)) (x.over (any_a h)));
        client_write = λ r h.
            let i : p ≡ NotNow = not_now p u.positive (omega (arith, e)) (u.over f) in
            u.writes (all_true cr (not c.flags.client_over && not (is_quiet c)) r (all_true (not c.flags.client_over) (not (is_quiet c)) (not_of c.flags.client_over (u.kept.client f)) (not_of (is_quiet c) (sym (u.still i) ∙ h)))) i
            ∙ ap (λ (k : ℕ). k + 1) (ap (λ (q : ClientFacts). q.write_waits) (z.client ∙ y.client) ∙ x.writes);
        link_read = λ r h i g k.
            ap (λ (q : Standing). q.read_waits) u.link
            ∙ z.reads (all_true sr (not (any_over b.flags) && (is_open b.to_client.ends && is_empty b.greeting)) r (all_true (not (any_over b.flags)) (is_open b.to_client.ends && is_empty b.greeting) (not_of (any_over b.flags) (any_b h))
            (all_true (is_open b.to_client.ends) (is_empty b.greeting) (ap (λ (q : FlowView). is_open q.ends) (y.to_client ∙ x.to_client) ∙ i) (ap is_empty (y.greeting ∙ x.greeting ∙ g)))))
            (subst HasRoom (sym (y.to_client ∙ x.to_client)) k) (not_now o z.positive (omega (arith, e)) (z.over (any_c h)))
            ∙ ap (λ (k : ℕ). k + 1) (y.reads ∙ ap (λ (q : Standing). q.read_waits) x.link);
        link_write = λ r h i k.
            let lb : b.flags.link_over ≡ false = z.kept.link (u.kept.link h) in
            let j : n ≡ NotNow = not_now n y.positive (omega (arith, e)) (y.over lb) in
            let same : w.to_link ≡ b.to_link = u.to_link ∙ z.to_link in
            ap (λ (q : Standing). q.write_waits) u.link ∙ z.writes
            ∙ y.writes (all_true sr (not a.flags.link_over && (not (is_faulty a.to_link.ends) && not (is_empty a.to_link.held))) r (all_true (not a.flags.link_over) (not (is_faulty a.to_link.ends) && not (is_empty a.to_link.held)) (not_of a.flags.link_over (y.kept.link lb))
            (all_true (not (is_faulty a.to_link.ends)) (not (is_empty a.to_link.held)) (not_of (is_faulty a.to_link.ends) (ap is_faulty (sym y.ends) ∙ ap (λ (q : FlowView). is_faulty q.ends) (sym same) ∙ i))
            (not_of (is_empty a.to_link.held) (some_held a.to_link.held (λ q. k (ap (λ (s : FlowView). s.held) same ∙ y.still j ∙ q))))))) j
            ∙ ap (λ (k : ℕ). k + 1) (ap (λ (q : Standing). q.write_waits) x.link);
      }

  pub sides_all : LeavesSides cr sr v w
  sides_all = (
    λ h. u.untouched h ∙ (z.client ∙ (y.client ∙ x.untouched h)),
    λ h. u.link ∙ (z.untouched (not_ready sr (not (any_over b.flags) && (is_open b.to_client.ends && is_empty b.greeting)) h) ∙ (y.untouched (not_ready sr (not a.flags.link_over && (not (is_faulty a.to_link.ends) && not (is_empty a.to_link.held))) h) ∙ x.link)),
  )

  pub stops_all : StopsLink v w
  stops_all = (
    λ h.
        let e : is_faulty a.to_link.ends ≡ true = ap is_faulty (sym y.ends) ∙ (ap (λ (q : FlowView). is_faulty q.ends) (sym (u.to_link ∙ z.to_link)) ∙ h) in
        ap (λ (q : Standing). q.accepted) u.link ∙ z.accepted ∙ ap (λ (q : Standing). q.accepted) (y.untouched (no_write_faulty sr a e) ∙ x.link),
    λ h.
        let ha : a.flags.link_over ≡ true = over_stays v.flags a.flags x.kept h in
        let hb : b.flags.link_over ≡ true = over_stays a.flags b.flags y.kept ha in
        u.link ∙ (z.untouched (no_read_over sr b hb) ∙ (y.untouched (no_write_over sr a ha) ∙ x.link)),
  )

  pub once_all : IsOnce v w
  once_all =
      let ca : b.client ≡ a.client = y.client in
      let cb : c.client ≡ b.client = z.client in (
        omega (arith, u.reads, ap (λ (q : ClientFacts). q.read_waits) cb, ap (λ (q : ClientFacts). q.read_waits) ca, x.once),
        omega (arith, u.once, ap (λ (q : ClientFacts). q.write_waits) cb, ap (λ (q : ClientFacts). q.write_waits) ca, x.writes),
        omega (arith, ap (λ (q : Standing). q.read_waits) u.link, z.once, y.reads, ap (λ (q : Standing). q.read_waits) x.link),
        omega (arith, ap (λ (q : Standing). q.write_waits) u.link, z.writes, y.once, ap (λ (q : Standing). q.write_waits) x.link),
      )

  pub unfaulted_all : w.flags.client_over ≡ false → w.client.faults ≡ v.client.faults
  unfaulted_all h =
      let hc : c.flags.client_over ≡ false = u.kept.client h in
      let ha : a.flags.client_over ≡ false = y.kept.client (z.kept.client hc) in
      u.unfaulted h ∙ (ap (λ (q : ClientFacts). q.faults) (z.client ∙ y.client) ∙ x.unfaulted ha)

  pub holds_all : IsStuck a.to_link → IsStuckClient c → HoldsAll w
  holds_all s t = (subst IsStuck (sym (u.to_link ∙ z.to_link)) (y.stuck s), u.stuck t)

-- ---- what the answer says

pub again_by : (none : Bool) (v w : RelayView) (n : Next) (sum : ℕ) → n ≡ judged none w → (none ≡ false → 0 < sum) → (v.client.tells ≡ true → bytes_moved w ≡ bytes_moved v + sum) → n ≡ Again → v.client.tells ≡ true → bytes_moved v < bytes_moved w
again_by none v w n sum e some all h t =
    let a : none ≡ false = means none w Again (sym h ∙ e) in
    let b : 0 < sum = some a in
    omega (arith, b, all t)

pub none_by : (none : Bool) (v w : RelayView) (n : Next) (sum : ℕ) → n ≡ judged none w → (none ≡ true → sum ≡ 0) → (v.client.tells ≡ true → bytes_moved w ≡ bytes_moved v + sum) → n ≡ Wait → v.client.tells ≡ true → bytes_moved w ≡ bytes_moved v
none_by none v w n sum e zero all h t =
    let b : sum ≡ 0 = zero ((means none w Wait (sym h ∙ e)).0) in
    omega (arith, b, all t)

pub waits_by : (none : Bool) (cr sr : Bool) (v w : RelayView) (n : Next) (sum : ℕ) → n ≡ judged none w → (none ≡ true → sum ≡ 0) → (sum ≡ 0 → w.flags.client_over ≡ false → Waits cr sr v w) → n ≡ Wait → Waits cr sr v w
waits_by none cr sr v w n sum e zero all h =
    let m = means none w Wait (sym h ∙ e) in
    all (zero m.0) ((or_false w.flags.client_over (is_empty w.to_link.held && (w.flags.input_over || is_last_end w.to_link.ends)) m.1).0)

-- an answer other than ClientDone says that the client isn't over
pub faults_by : (none : Bool) (v w : RelayView) (n : Next) → n ≡ judged none w → (w.flags.client_over ≡ false → w.client.faults ≡ v.client.faults) → n ≢ ClientDone → w.client.faults ≡ v.client.faults
faults_by none v w n e kept other = by w.flags.client_over refl
  where
    by : (b : Bool) → w.flags.client_over ≡ b → w.client.faults ≡ v.client.faults
    by true o = absurd (other (e ∙ ap (λ (d : Bool). cond (d || (is_empty w.to_link.held && (w.flags.input_over || is_last_end w.to_link.ends))) ClientDone (cond (is_quiet w) (quiet_next none w) (moved_or none))) o))
    by false o = kept o

pub waits_phase : (cr sr : Bool) (v : RelayView) (cf : ClientFacts) (l : Standing) (k : StartKeyOf) (n b : ℕ) (sk : Option KeyView) (w : KeyWord) (gr : List ℕ) (tl tc : FlowView) (t : Told) (fs : Flags) (ph pi : Phase) → Waits cr sr v (relay_view cf l k n b sk w gr tl tc t fs ph) → Waits cr sr v (relay_view cf l k n b sk w gr tl tc t fs pi)
waits_phase cr sr v cf l k n b sk w gr tl tc t fs ph pi x = record { client_read = x.client_read; client_write = x.client_write; link_read = x.link_read; link_write = x.link_write }

-- what may be written is there
not_true : (a : Bool) → not a ≡ true → a ≡ false
not_true true e = absurd (false≢true e)
not_true false e = refl

pub held_for_link : (ready : Bool) (v : RelayView) → may_write_link ready v ≡ true → is_empty v.to_link.held ≡ false
held_for_link ready v e =
    let a = both_of ready _ e in
    let b = both_of (not v.flags.link_over) _ a.1 in
    let c = both_of (not (is_faulty v.to_link.ends)) _ b.1 in
    not_true (is_empty v.to_link.held) c.1

pub ready_to_write : (ready : Bool) (v : RelayView) → may_write_link ready v ≡ true → may_write_link true v ≡ true
ready_to_write ready v e = (both_of ready _ e).1

pub held_for_client : (ready : Bool) (v : RelayView) → may_write_client ready v ≡ true → is_empty v.greeting ≡ true → is_empty v.to_client.held ≡ false
held_for_client ready v e h =
    let a = both_of ready _ e in
    let b = both_of (not v.flags.client_over) _ a.1 in
    by (is_empty v.greeting) (is_empty v.to_client.held) h (not_true (is_quiet v) b.1)
  where
    by : (a b : Bool) → a ≡ true → (a && b) ≡ false → b ≡ false
    by true b e h = h
    by false b e h = absurd (false≢true e)

pub open_to_link : (ready : Bool) (v : RelayView) → may_read_client ready v ≡ true → is_open v.to_link.ends ≡ true
open_to_link ready v e = (both_of (not (any_over v.flags)) (is_open v.to_link.ends) (both_of ready (not (any_over v.flags) && is_open v.to_link.ends) e).1).1

pub open_to_client : (ready : Bool) (v : RelayView) → may_read_link ready v ≡ true → is_open v.to_client.ends ≡ true
open_to_client ready v e =
    let a = both_of ready (not (any_over v.flags) && (is_open v.to_client.ends && is_empty v.greeting)) e in
    let b = both_of (not (any_over v.flags)) (is_open v.to_client.ends && is_empty v.greeting) a.1 in
    (both_of (is_open v.to_client.ends) (is_empty v.greeting) b.1).0
