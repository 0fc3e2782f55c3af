-- What reads and writes of the ends do to a lease.
use Rattle.std.proofs.Common.{◌≡◌, ℕ, ◌+◌, ◌≤◌, inl, inr, ⊎_elim, length, arith, Bool, true, false, List, Option, [], ◌∷◌, ◌++◌, refl, sym, ap, ap₂, ◌∙◌, append_assoc, subst, take, drop, take-append-drop, length-take-le, length-append, ◌<◌}
use Rattle.std.specs.Prelude.{◌||◌}
use Rattle.std.specs.List.{flat_map}
use Rattle.std.proofs.lemmas.Bool.{true≢false, false≢true}
use Rattle.frame_view.specs.declared.Side.TheVariants.{Client, Server}
use Rattle.frame_view.specs.Frames.{spelling}
use Rattle.message_view.specs.declared.KeyWord.{KeyWord}
use Rattle.message_view.specs.declared.views.KeyView.{KeyView}
use Rattle.session_values.specs.State.{StartKeyOf}
use Rattle.link_run.specs.declared.Moved.{Moved}
use Rattle.link_run.specs.declared.Moved.TheVariants.{Count, NotNow, Ended, Fault}
use Rattle.link_run.specs.Moves.{faults_in, moved, IsWithin}
use Rattle.link_model.specs.Standing.{Standing, ClientFacts, Moves}
use Rattle.link_run.specs.Moves.{CountsRead, CountsWrite, ClientReads, ClientWrites}
use Rattle.link_model.proofs.Both.{moves_got, moves_put}
use Rattle.relay_model.specs.Verdicts.{Told}
use Rattle.relay_model.specs.declared.Flags.{Flags}
use Rattle.relay_model.specs.declared.Phase.{Phase}
use Rattle.relay_flow.specs.Flows.{FlowView, SameCursor, came, count_of, Fills, IsPositive, is_open}
use Rattle.relay_model.specs.Leases.{relay_view, Place, IsLease, IsClientOver, IsLinkOver, is_end, is_fault, counts, link_moved, client_read, client_wrote}
use Rattle.relay_model.proofs.Flowing.{at_end, flow_open, flow_same, same_opens, same_went}
use Rattle.relay_model.proofs.Sides.{link_side, client_side}

-- ---- what the ends answered

or_by : {A : Type 0} (a b : Bool) → (a || b) ≡ true → (a ≡ true → A) → (b ≡ true → A) → A
or_by true b e f g = f refl
or_by false b e f g = g e

over_if_end : (m : Moved) → is_end m ≡ true → (is_end m || is_fault m) ≡ true
over_if_end (Count n) e = e
over_if_end NotNow e = e
over_if_end Ended e = refl
over_if_end Fault e = refl

over_if_fault : (m : Moved) → is_fault m ≡ true → (is_end m || is_fault m) ≡ true
over_if_fault (Count n) e = e
over_if_fault NotNow e = e
over_if_fault Ended e = refl
over_if_fault Fault e = refl

client_now : (f : ℕ) (c d : ClientFacts) (m : Moved) → f ≤ c.faults → d.faults ≡ c.faults + faults_in m → (m ≡ Ended → d.ended ≡ true) → (is_end m || is_fault m) ≡ true → IsClientOver f d
client_now f c d (Count n) l h e w = absurd (false≢true w)
client_now f c d NotNow l h e w = absurd (false≢true w)
client_now f c d Ended l h e w = inl (e refl)
client_now f c d Fault l h e w = inr (omega (arith, l, h))

client_stays : (f : ℕ) (c d : ClientFacts) (m : Moved) → d.faults ≡ c.faults + faults_in m → (c.ended ≡ true → d.ended ≡ true) → IsClientOver f c → IsClientOver f d
client_stays f c d m h e o = ⊎_elim (λ z. inl (e z)) (λ z. inr (omega (arith, z, h))) o

link_now : (f : ℕ) (c d : Standing) (m : Moved) → f ≤ c.faults → d.faults ≡ c.faults + faults_in m → (m ≡ Ended → d.lives ≡ false) → (is_end m || is_fault m) ≡ true → IsLinkOver f d
link_now f c d (Count n) l h e w = absurd (false≢true w)
link_now f c d NotNow l h e w = absurd (false≢true w)
link_now f c d Ended l h e w = inl (e refl)
link_now f c d Fault l h e w = inr (omega (arith, l, h))

link_stays : (f : ℕ) (c d : Standing) (m : Moved) → d.faults ≡ c.faults + faults_in m → (c.lives ≡ false → d.lives ≡ false) → IsLinkOver f c → IsLinkOver f d
link_stays f c d m h e o = ⊎_elim (λ z. inl (e z)) (λ z. inr (omega (arith, z, h))) o

none_long : (bytes : List ℕ) → length bytes ≡ 0 → bytes ≡ []
none_long [] e = refl
none_long (b ∷ bytes) e = absurd (omega (arith, e))

none_counts : (m : Moved) (bytes : List ℕ) → length bytes ≡ count_of m → counts m ≡ false → bytes ≡ []
none_counts (Count n) bytes e h = absurd (true≢false h)
none_counts NotNow bytes e h = none_long bytes e
none_counts Ended bytes e h = none_long bytes e
none_counts Fault bytes e h = none_long bytes e

-- untouched still: nothing was counted
still : (a : Bool) (m : Moved) (bytes : List ℕ) → length bytes ≡ count_of m → (a || counts m) ≡ false → (a ≡ false) × (bytes ≡ [])
still true m bytes h w = absurd (true≢false w)
still false m bytes h w = (refl, none_counts m bytes h w)

-- touched: at least a byte was counted
some_long : (m : Moved) (bytes : List ℕ) → IsPositive m → length bytes ≡ count_of m → counts m ≡ true → 0 < length bytes
some_long (Count n) bytes p h w = omega (arith, p, h)
some_long NotNow bytes p h w = absurd (false≢true w)
some_long Ended bytes p h w = absurd (false≢true w)
some_long Fault bytes p h w = absurd (false≢true w)

no_faults : (m : Moved) → (is_end m || is_fault m) ≡ false → faults_in m ≡ 0
no_faults (Count n) w = refl
no_faults NotNow w = refl
no_faults Ended w = absurd (true≢false w)
no_faults Fault w = absurd (true≢false w)

unfaulted_still : (a : Bool) (m : Moved) → (a || (is_end m || is_fault m)) ≡ false → (a ≡ false) × (faults_in m ≡ 0)
unfaulted_still true m w = absurd (true≢false w)
unfaulted_still false m w = (refl, no_faults m w)

pub positive_of : (m : Moved) (n : ℕ) → IsWithin m n → IsPositive m
positive_of (Count k) n w = w.0
positive_of NotNow n w = tt
positive_of Ended n w = tt
positive_of Fault n w = tt

-- ---- the moves

pub lease_room_link : (p : Place) (cf : ClientFacts) (l : Standing) (k : StartKeyOf) (n : ℕ) (b : ℕ) (sk : Option KeyView) (w : KeyWord) (gr : List ℕ) (tl : FlowView) (tm : FlowView) (tc : FlowView) (t : Told) (fs : Flags) (ph : Phase)
    → tm.held ≡ tl.held → tm.part ≡ tl.part → SameCursor tl tm
    → IsLease p (relay_view cf l k n b sk w gr tl tc t fs ph) → IsLease p (relay_view cf l k n b sk w gr tm tc t fs ph)
lease_room_link p cf l k n b sk w gr tl tm tc t fs ph h e s x = link_side p cf l k n b sk w gr tl tc t fs ph x tm t x.forwarded x.tail s.limit (record {
  flow = flow_same Client tl tm s e x.goes.flow;
  opens = same_opens x.tail tl tm s x.goes.opens;
  tail_bytes = x.goes.tail_bytes;
  went = same_went x.forwarded tl.limit tm.limit s.limit x.goes.went;
  on_way = rw h x.goes.on_way;
  taken = λ z. rw e (x.goes.taken z);
}) x.tally

pub lease_room_client : (p : Place) (cf : ClientFacts) (l : Standing) (k : StartKeyOf) (n : ℕ) (b : ℕ) (sk : Option KeyView) (w : KeyWord) (gr : List ℕ) (tl : FlowView) (tc : FlowView) (td : FlowView) (t : Told) (fs : Flags) (ph : Phase)
    → td.held ≡ tc.held → td.part ≡ tc.part → SameCursor tc td
    → IsLease p (relay_view cf l k n b sk w gr tl tc t fs ph) → IsLease p (relay_view cf l k n b sk w gr tl td t fs ph)
lease_room_client p cf l k n b sk w gr tl tc td t fs ph h e s x = client_side p cf l k n b sk w gr tl tc t fs ph x td t x.arrived x.front s.limit (record {
  flow = flow_same Server tc td s e x.comes.flow;
  opens = same_opens x.front tc td s x.comes.opens;
  came = x.comes.came;
  given = x.comes.given;
  out = rw (h, e) x.comes.out;
  whole = rw e x.comes.whole;
}) x.tally

pub lease_read_link : (p : Place) (cf : ClientFacts) (l : Standing) (m : Standing) (k : StartKeyOf) (n : ℕ) (b : ℕ) (sk : Option KeyView) (w : KeyWord) (gr : List ℕ) (tl : FlowView) (tc : FlowView) (td : FlowView) (t : Told) (fs : Flags) (fz : Flags) (ph : Phase) (r : Moved)
    → is_open tc.ends ≡ true → IsPositive r → Fills tc td r → Moves l [] m (came tc td) → CountsRead l m r → fz ≡ link_moved fs r
    → IsLease p (relay_view cf l k n b sk w gr tl tc t fs ph) → IsLease p (relay_view cf m k n b sk w gr tl td t fz ph)
lease_read_link p cf l m k n b sk w gr tl tc td t fs fz ph r o u f y z q x = record {
  sent = x.sent;
  received = x.received ++ came tc td;
  since = x.since;
  forwarded = x.forwarded;
  arrived = x.arrived;
  tail = x.tail;
  front = x.front;
  clean = x.clean;
  greets = x.greets;
  same = (x.same.0, x.same.1, x.same.2, x.same.3, x.same.4, f.cursor.limit ∙ x.same.5, x.same.6);
  told = x.told;
  moves = moves_got p.stands l m x.sent x.received (came tc td) x.moves y;
  goes = x.goes;
  comes = record {
    flow = flow_open Server tc td f.cursor.side f.cursor.limit f.cursor.ends o x.comes.flow;
    opens = same_opens x.front tc td f.cursor x.comes.opens;
    came = x.comes.came;
    given = x.comes.given;
    out = ap₂ (λ (y z : List ℕ). x.since ++ (gr ++ (y ++ z))) f.held f.part ∙ at_end x.since gr tc.held tc.part (came tc td) p.greeting x.received x.comes.out;
    whole = cc (x.comes.whole, f.part, append_assoc (flat_map spelling x.arrived) (x.front ++ tc.part) (came tc td), append_assoc x.front tc.part (came tc td));
  };
  tally = x.tally;
  says = record {
    client_faults = x.says.client_faults;
    link_faults = omega (arith, x.says.link_faults, z.faults);
    client_over = λ v. x.says.client_over (sym (ap (λ (f : Flags). f.client_over) q) ∙ v);
    input_over = λ v. x.says.input_over (sym (ap (λ (f : Flags). f.input_over) q) ∙ v);
    link_over = λ v. or_by fs.link_over (is_end r || is_fault r) (sym (ap (λ (f : Flags). f.link_over) q) ∙ v) (λ a. link_stays p.stands.faults l m r z.faults y.dead (x.says.link_over a)) (λ a. link_now p.stands.faults l m r x.says.link_faults z.faults z.ended a);
    unfaulted = λ v. let a : (fs.link_over ≡ false) × (faults_in r ≡ 0) = unfaulted_still fs.link_over r (sym (ap (λ (f : Flags). f.link_over) q) ∙ v) in omega (arith, x.says.unfaulted a.0, a.1, z.faults);
    untouched = λ v. let a : (fs.touched ≡ false) × (came tc td ≡ []) = still fs.touched r (came tc td) f.count (sym (ap (λ (f : Flags). f.touched) q) ∙ v) in let c : (x.sent ≡ []) × (x.received ≡ []) = x.says.untouched a.0 in (c.0, rw (c.1, a.1) refl);
    touched = λ v. or_by fs.touched (counts r) (sym (ap (λ (f : Flags). f.touched) q) ∙ v) (λ a. omega (arith, x.says.touched a, length-append x.received (came tc td))) (λ a. omega (arith, some_long r (came tc td) u f.count a, length-append x.received (came tc td)));
  };
}

pub lease_read_client : (p : Place) (cf : ClientFacts) (cg : ClientFacts) (l : Standing) (k : StartKeyOf) (n : ℕ) (b : ℕ) (sk : Option KeyView) (w : KeyWord) (gr : List ℕ) (tl : FlowView) (tm : FlowView) (tc : FlowView) (t : Told) (fs : Flags) (fz : Flags) (ph : Phase) (r : Moved)
    → is_open tl.ends ≡ true → Fills tl tm r → ClientReads cf cg (came tl tm) r → fz ≡ client_read fs r
    → IsLease p (relay_view cf l k n b sk w gr tl tc t fs ph) → IsLease p (relay_view cg l k n b sk w gr tm tc t fz ph)
lease_read_client p cf cg l k n b sk w gr tl tm tc t fs fz ph r o f y q x = record {
  sent = x.sent;
  received = x.received;
  since = x.since;
  forwarded = x.forwarded;
  arrived = x.arrived;
  tail = x.tail;
  front = x.front;
  clean = x.clean;
  greets = x.greets;
  same = (x.same.0, x.same.1, x.same.2, x.same.3, f.cursor.limit ∙ x.same.4, x.same.5, x.same.6);
  told = y.tells ∙ x.told;
  moves = x.moves;
  goes = record {
    flow = flow_open Client tl tm f.cursor.side f.cursor.limit f.cursor.ends o x.goes.flow;
    opens = same_opens x.tail tl tm f.cursor x.goes.opens;
    tail_bytes = x.goes.tail_bytes;
    went = same_went x.forwarded tl.limit tm.limit f.cursor.limit x.goes.went;
    on_way = rw f.held x.goes.on_way;
    taken = λ z. let v : cf.tells ≡ true = sym y.tells ∙ z in
        cc (x.goes.taken v, y.taken v, f.part, append_assoc p.taken (flat_map spelling x.forwarded ++ (x.tail ++ tl.part)) (came tl tm), append_assoc (flat_map spelling x.forwarded) (x.tail ++ tl.part) (came tl tm), append_assoc x.tail tl.part (came tl tm));
  };
  comes = record {
    flow = x.comes.flow;
    opens = x.comes.opens;
    came = x.comes.came;
    given = λ z. let v : cf.tells ≡ true = sym y.tells ∙ z in cc (x.comes.given v, y.given v);
    out = x.comes.out;
    whole = x.comes.whole;
  };
  tally = x.tally;
  says = record {
    client_faults = omega (arith, x.says.client_faults, y.faults);
    link_faults = x.says.link_faults;
    client_over = λ v. or_by fs.client_over (is_fault r) (sym (ap (λ (f : Flags). f.client_over) q) ∙ v) (λ a. client_stays p.faults cf cg r y.faults y.stays_ended (x.says.client_over a)) (λ a. client_now p.faults cf cg r x.says.client_faults y.faults y.ended (over_if_fault r a));
    input_over = λ v. or_by fs.input_over (is_end r) (sym (ap (λ (f : Flags). f.input_over) q) ∙ v) (λ a. client_stays p.faults cf cg r y.faults y.stays_ended (x.says.input_over a)) (λ a. client_now p.faults cf cg r x.says.client_faults y.faults y.ended (over_if_end r a));
    link_over = λ v. x.says.link_over (sym (ap (λ (f : Flags). f.link_over) q) ∙ v);
    unfaulted = λ v. x.says.unfaulted (sym (ap (λ (f : Flags). f.link_over) q) ∙ v);
    untouched = λ v. x.says.untouched (sym (ap (λ (f : Flags). f.touched) q) ∙ v);
    touched = λ v. x.says.touched (sym (ap (λ (f : Flags). f.touched) q) ∙ v);
  };
}

-- the front of what is held that was written
pub record Writes (v w : FlowView) (put : List ℕ) (m : Moved) : Type 0 where
  pub held : v.held ≡ put ++ w.held
  pub part : w.part ≡ v.part
  pub count : length put ≡ count_of m
  pub cursor : SameCursor v w

split_held : (h r w : List ℕ) (n : ℕ) → r ≡ h → w ≡ drop n h → h ≡ take n r ++ w
split_held h r w n e d = rw (e, d) (sym (take-append-drop n h))

pub writes_by : (v w : FlowView) (h : List ℕ) (r : Moved) → h ≡ v.held → IsWithin r (length h) → w.held ≡ drop (count_of r) v.held → w.part ≡ v.part → SameCursor v w → Writes v w (moved r h) r
writes_by v w h (Count n) e i d q s = record { held = split_held v.held h w.held n e d; part = q; count = length-take-le n h i.1; cursor = s }
writes_by v w h NotNow e i d q s = record { held = sym d; part = q; count = refl; cursor = s }
writes_by v w h Ended e i d q s = record { held = sym d; part = q; count = refl; cursor = s }
writes_by v w h Fault e i d q s = record { held = sym d; part = q; count = refl; cursor = s }

-- the front of some bytes that was written
pub record Gives (v w put : List ℕ) (m : Moved) : Type 0 where
  pub both : v ≡ put ++ w
  pub count : length put ≡ count_of m

pub gives_by : (v w h : List ℕ) (r : Moved) → h ≡ v → IsWithin r (length h) → w ≡ drop (count_of r) v → Gives v w (moved r h) r
gives_by v w h (Count n) e i d = record { both = split_held v h w n e d; count = length-take-le n h i.1 }
gives_by v w h NotNow e i d = record { both = sym d; count = refl }
gives_by v w h Ended e i d = record { both = sym d; count = refl }
gives_by v w h Fault e i d = record { both = sym d; count = refl }

pub lease_write_link : (p : Place) (cf : ClientFacts) (l : Standing) (m : Standing) (k : StartKeyOf) (n : ℕ) (b : ℕ) (sk : Option KeyView) (w : KeyWord) (gr : List ℕ) (tl : FlowView) (tm : FlowView) (tc : FlowView) (t : Told) (fs : Flags) (fz : Flags) (ph : Phase) (put : List ℕ) (r : Moved)
    → IsPositive r → Writes tl tm put r → Moves l put m [] → CountsWrite l m r → fz ≡ link_moved fs r
    → IsLease p (relay_view cf l k n b sk w gr tl tc t fs ph) → IsLease p (relay_view cf m k n b sk w gr tm tc t fz ph)
lease_write_link p cf l m k n b sk w gr tl tm tc t fs fz ph put r u f y z q x = record {
  sent = x.sent ++ put;
  received = x.received;
  since = x.since;
  forwarded = x.forwarded;
  arrived = x.arrived;
  tail = x.tail;
  front = x.front;
  clean = x.clean;
  greets = x.greets;
  same = (x.same.0, x.same.1, x.same.2, x.same.3, f.cursor.limit ∙ x.same.4, x.same.5, x.same.6);
  told = x.told;
  moves = moves_put p.stands l m x.sent put x.received x.moves y;
  goes = record {
    flow = flow_same Client tl tm f.cursor f.part x.goes.flow;
    opens = same_opens x.tail tl tm f.cursor x.goes.opens;
    tail_bytes = x.goes.tail_bytes;
    went = same_went x.forwarded tl.limit tm.limit f.cursor.limit x.goes.went;
    on_way = cc (x.goes.on_way, f.held, append_assoc x.sent put tm.held);
    taken = λ z. rw f.part (x.goes.taken z);
  };
  comes = x.comes;
  tally = x.tally;
  says = record {
    client_faults = x.says.client_faults;
    link_faults = omega (arith, x.says.link_faults, z.faults);
    client_over = λ v. x.says.client_over (sym (ap (λ (f : Flags). f.client_over) q) ∙ v);
    input_over = λ v. x.says.input_over (sym (ap (λ (f : Flags). f.input_over) q) ∙ v);
    link_over = λ v. or_by fs.link_over (is_end r || is_fault r) (sym (ap (λ (f : Flags). f.link_over) q) ∙ v) (λ a. link_stays p.stands.faults l m r z.faults y.dead (x.says.link_over a)) (λ a. link_now p.stands.faults l m r x.says.link_faults z.faults z.ended a);
    unfaulted = λ v. let a : (fs.link_over ≡ false) × (faults_in r ≡ 0) = unfaulted_still fs.link_over r (sym (ap (λ (f : Flags). f.link_over) q) ∙ v) in omega (arith, x.says.unfaulted a.0, a.1, z.faults);
    untouched = λ v. let a : (fs.touched ≡ false) × (put ≡ []) = still fs.touched r put f.count (sym (ap (λ (f : Flags). f.touched) q) ∙ v) in let c : (x.sent ≡ []) × (x.received ≡ []) = x.says.untouched a.0 in (rw (c.0, a.1) refl, c.1);
    touched = λ v. or_by fs.touched (counts r) (sym (ap (λ (f : Flags). f.touched) q) ∙ v) (λ a. omega (arith, x.says.touched a, length-append x.sent put)) (λ a. omega (arith, some_long r put u f.count a, length-append x.sent put));
  };
}

written_by : (s h q i put all : List ℕ) → h ≡ put ++ i → s ++ (h ++ q) ≡ all → (s ++ put) ++ (i ++ q) ≡ all
written_by s h q i put all f o = cc (f, o, append_assoc s put (i ++ q), append_assoc put i q)

written : (s g h q i j put all : List ℕ) → g ≡ [] → h ≡ put ++ i → j ≡ q → s ++ (g ++ (h ++ q)) ≡ all → (s ++ put) ++ (g ++ (i ++ j)) ≡ all
written s g h q i j put all e f d o = rw (e, d) (written_by s h q i put all f (subst (λ (x : List ℕ). s ++ (x ++ (h ++ q)) ≡ all) e o))

pub lease_write_client : (p : Place) (cf : ClientFacts) (cg : ClientFacts) (l : Standing) (k : StartKeyOf) (n : ℕ) (b : ℕ) (sk : Option KeyView) (w : KeyWord) (gr : List ℕ) (tl : FlowView) (tc : FlowView) (td : FlowView) (t : Told) (fs : Flags) (fz : Flags) (ph : Phase) (put : List ℕ) (r : Moved)
    → gr ≡ [] → Writes tc td put r → ClientWrites cf cg put r → fz ≡ client_wrote fs r
    → IsLease p (relay_view cf l k n b sk w gr tl tc t fs ph) → IsLease p (relay_view cg l k n b sk w gr tl td t fz ph)
lease_write_client p cf cg l k n b sk w gr tl tc td t fs fz ph put r e f y q x = record {
  sent = x.sent;
  received = x.received;
  since = x.since ++ put;
  forwarded = x.forwarded;
  arrived = x.arrived;
  tail = x.tail;
  front = x.front;
  clean = x.clean;
  greets = x.greets;
  same = (x.same.0, x.same.1, x.same.2, x.same.3, x.same.4, f.cursor.limit ∙ x.same.5, x.same.6);
  told = y.tells ∙ x.told;
  moves = x.moves;
  goes = record {
    flow = x.goes.flow;
    opens = x.goes.opens;
    tail_bytes = x.goes.tail_bytes;
    went = x.goes.went;
    on_way = x.goes.on_way;
    taken = λ z. let v : cf.tells ≡ true = sym y.tells ∙ z in cc (x.goes.taken v, y.taken v);
  };
  comes = record {
    flow = flow_same Server tc td f.cursor f.part x.comes.flow;
    opens = same_opens x.front tc td f.cursor x.comes.opens;
    came = x.comes.came;
    given = λ z. let v : cf.tells ≡ true = sym y.tells ∙ z in cc (x.comes.given v, y.given v, append_assoc p.given x.since put);
    out = written x.since gr tc.held tc.part td.held td.part put (p.greeting ++ x.received) e f.held f.part x.comes.out;
    whole = rw f.part x.comes.whole;
  };
  tally = x.tally;
  says = record {
    client_faults = omega (arith, x.says.client_faults, y.faults);
    link_faults = x.says.link_faults;
    client_over = λ v. or_by fs.client_over (is_end r || is_fault r) (sym (ap (λ (f : Flags). f.client_over) q) ∙ v) (λ a. client_stays p.faults cf cg r y.faults y.stays_ended (x.says.client_over a)) (λ a. client_now p.faults cf cg r x.says.client_faults y.faults y.ended a);
    input_over = λ v. client_stays p.faults cf cg r y.faults y.stays_ended (x.says.input_over (sym (ap (λ (f : Flags). f.input_over) q) ∙ v));
    link_over = λ v. x.says.link_over (sym (ap (λ (f : Flags). f.link_over) q) ∙ v);
    unfaulted = λ v. x.says.unfaulted (sym (ap (λ (f : Flags). f.link_over) q) ∙ v);
    untouched = λ v. x.says.untouched (sym (ap (λ (f : Flags). f.touched) q) ∙ v);
    touched = λ v. x.says.touched (sym (ap (λ (f : Flags). f.touched) q) ∙ v);
  };
}

pub lease_write_welcome : (p : Place) (cf : ClientFacts) (cg : ClientFacts) (l : Standing) (k : StartKeyOf) (n : ℕ) (b : ℕ) (sk : Option KeyView) (w : KeyWord) (gr : List ℕ) (gs : List ℕ) (tl : FlowView) (tc : FlowView) (t : Told) (fs : Flags) (fz : Flags) (ph : Phase) (put : List ℕ) (r : Moved)
    → Gives gr gs put r → ClientWrites cf cg put r → fz ≡ client_wrote fs r
    → IsLease p (relay_view cf l k n b sk w gr tl tc t fs ph) → IsLease p (relay_view cg l k n b sk w gs tl tc t fz ph)
lease_write_welcome p cf cg l k n b sk w gr gs tl tc t fs fz ph put r f y q x = record {
  sent = x.sent;
  received = x.received;
  since = x.since ++ put;
  forwarded = x.forwarded;
  arrived = x.arrived;
  tail = x.tail;
  front = x.front;
  clean = x.clean;
  greets = x.greets;
  same = x.same;
  told = y.tells ∙ x.told;
  moves = x.moves;
  goes = record {
    flow = x.goes.flow;
    opens = x.goes.opens;
    tail_bytes = x.goes.tail_bytes;
    went = x.goes.went;
    on_way = x.goes.on_way;
    taken = λ z. let v : cf.tells ≡ true = sym y.tells ∙ z in cc (x.goes.taken v, y.taken v);
  };
  comes = record {
    flow = x.comes.flow;
    opens = x.comes.opens;
    came = x.comes.came;
    given = λ z. let v : cf.tells ≡ true = sym y.tells ∙ z in cc (x.comes.given v, y.given v, append_assoc p.given x.since put);
    out = written_by x.since gr (tc.held ++ tc.part) gs put (p.greeting ++ x.received) f.both x.comes.out;
    whole = x.comes.whole;
  };
  tally = x.tally;
  says = record {
    client_faults = omega (arith, x.says.client_faults, y.faults);
    link_faults = x.says.link_faults;
    client_over = λ v. or_by fs.client_over (is_end r || is_fault r) (sym (ap (λ (f : Flags). f.client_over) q) ∙ v) (λ a. client_stays p.faults cf cg r y.faults y.stays_ended (x.says.client_over a)) (λ a. client_now p.faults cf cg r x.says.client_faults y.faults y.ended a);
    input_over = λ v. client_stays p.faults cf cg r y.faults y.stays_ended (x.says.input_over (sym (ap (λ (f : Flags). f.input_over) q) ∙ v));
    link_over = λ v. x.says.link_over (sym (ap (λ (f : Flags). f.link_over) q) ∙ v);
    unfaulted = λ v. x.says.unfaulted (sym (ap (λ (f : Flags). f.link_over) q) ∙ v);
    untouched = λ v. x.says.untouched (sym (ap (λ (f : Flags). f.touched) q) ∙ v);
    touched = λ v. x.says.touched (sym (ap (λ (f : Flags). f.touched) q) ∙ v);
  };
}

pub lease_phase : (p : Place) (cf : ClientFacts) (l : Standing) (k : StartKeyOf) (n : ℕ) (b : ℕ) (sk : Option KeyView) (w : KeyWord) (gr : List ℕ) (tl : FlowView) (tc : FlowView) (t : Told) (fs : Flags) (ph : Phase) (pi : Phase)
    → IsLease p (relay_view cf l k n b sk w gr tl tc t fs ph) → IsLease p (relay_view cf l k n b sk w gr tl tc t fs pi)
lease_phase p cf l k n b sk w gr tl tc t fs ph pi x = record {
  sent = x.sent;
  received = x.received;
  since = x.since;
  forwarded = x.forwarded;
  arrived = x.arrived;
  tail = x.tail;
  front = x.front;
  clean = x.clean;
  greets = x.greets;
  same = x.same;
  told = x.told;
  moves = x.moves;
  goes = x.goes;
  comes = x.comes;
  tally = x.tally;
  says = x.says;
}
