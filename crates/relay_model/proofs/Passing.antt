-- What a frame that goes on does to a lease.
use Rattle.std.proofs.Common.{◌≡◌, ◌≢◌, ℕ, zero, suc, ◌+◌, ◌≤◌, length, arith, Bool, true, false, List, [], ◌∷◌, ◌++◌, Option, refl, sym, ap, ap₂, ◌∙◌, append_assoc, append-nil, subst, drop, ◌-◌, length-append, eqb-true}
use Rattle.std.specs.Prelude.{◌==◌, if◌then◌else◌}
use Rattle.std.specs.List.{flat_map}
use Rattle.std.proofs.lemmas.Grind.{flat_map-append}
use Rattle.disposal.specs.Tallies.{may_end}
use Rattle.disposal.specs.Laws.{CallsTell}
use Rattle.frame_view.specs.declared.Side.{Side}
use Rattle.frame_view.specs.declared.Side.TheVariants.{Client, Server}
use Rattle.frame_view.specs.Frames.{AreBytes, FrameOf, IsFrame, spelling}
use Rattle.frame_view.specs.declared.frames.TheConstants.{MAX_FRAME}
use Rattle.frame_view.specs.declared.client.TheConstants.{TERMINATE}
use Rattle.message_view.specs.declared.KeyWord.{KeyWord}
use Rattle.message_view.specs.declared.views.KeyView.{KeyView}
use Rattle.session_values.specs.State.{StartKeyOf}
use Rattle.link_model.specs.Standing.{Standing, ClientFacts}
use Rattle.session_values.proofs.Alls.{all-append}
use Rattle.link_run.specs.Links.{told_by}
use Rattle.link_run.specs.Dialogues.{names_kept}
use Rattle.param_track.specs.KeptReports.{KeptReport}
use Rattle.message_view.specs.Reading.{status_of}
use Rattle.frame_view.specs.declared.server.TheConstants.{PARAMETER_STATUS}
use Rattle.relay_flow.specs.declared.parts.TheConstants.{HEAD}
use Rattle.std.proofs.Math.Seq.{drop-append_seam}
use Rattle.relay_model.specs.Verdicts.{Told, IsRead, is_own, kept_after, begun_arrived, told_sent, told_arrived}
use Rattle.relay_model.proofs.Settling.{Arrives, tells_sent, tells_arrived, status_may_end}
use Rattle.relay_flow.specs.Parts.{Opens, Spells, is_foreign}
use Rattle.relay_flow.specs.declared.flow.Passed.{Passed}
use Rattle.relay_model.specs.declared.Flags.{Flags}
use Rattle.relay_model.specs.declared.Phase.{Phase}
use Rattle.relay_flow.specs.Flows.{FlowView, Passes, Stays, is_open, last_body}
use Rattle.relay_model.specs.Leases.{RelayView, relay_view, Place, IsLease, IsForwarded}
use Rattle.relay_model.proofs.Flowing.{flow_open, flow_stays, no_opens, same_went, stay_opens}
use Rattle.relay_model.proofs.Sides.{link_side, client_side}

-- ---- the frames that went on

bytes_both : (xs ys : List ℕ) → AreBytes xs → AreBytes ys → AreBytes (xs ++ ys)
bytes_both [] ys h k i = k i
bytes_both (x ∷ xs) ys h k zero = h zero
bytes_both (x ∷ xs) ys h k (suc i) = bytes_both xs ys (λ j. h (suc j)) k i

bytes_behind : (xs ys : List ℕ) → AreBytes (xs ++ ys) → AreBytes ys
bytes_behind [] ys h = h
bytes_behind (x ∷ xs) ys h = bytes_behind xs ys (λ j. h (suc j))

body_bytes : (f : FrameOf) → AreBytes (spelling f) → AreBytes f.body
body_bytes f h = (bytes_behind (Rattle.std.specs.Int.to_be_bytes Rattle.std.specs.Int.w32 (4 + length f.body)) f.body (λ j. h (suc j)))

forwarded : (limit limit2 : ℕ) (side : Side) (bytes : List ℕ) (kind : ℕ) (status : Option ℕ) (foreign : Bool) (s : Spells side limit bytes kind status foreign) → side ≡ Client → limit2 ≡ limit → limit ≤ MAX_FRAME → AreBytes bytes → (side ≡ Client → kind ≢ TERMINATE) → IsForwarded limit2 s.frame
forwarded limit limit2 side bytes kind status foreign s d e h a g =
    let u : IsFrame Client limit s.frame = subst (λ (x : Side). IsFrame x limit s.frame) d s.is_frame in
    record {
      sent = record { whole = record { of_type = u.of_type; size = omega (arith, u.size, h) }; bytes = body_bytes s.frame (subst AreBytes s.spelled a) };
      under = subst (λ (n : ℕ). IsFrame Client n s.frame) (sym e) u;
      goes_on = λ q. g d (sym s.kind_is ∙ q);
    }

arrived : (limit : ℕ) (side : Side) (bytes : List ℕ) (kind : ℕ) (status : Option ℕ) (foreign : Bool) (s : Spells side limit bytes kind status foreign) → side ≡ Server → limit ≤ MAX_FRAME → IsFrame Server MAX_FRAME s.frame
arrived limit side bytes kind status foreign s d h =
    let u : IsFrame Server limit s.frame = subst (λ (x : Side). IsFrame x limit s.frame) d s.is_frame in
    record { of_type = u.of_type; size = omega (arith, u.size, h) }

-- ---- what a frame reports

abbrev a_frame : ℕ → List ℕ → FrameOf
a_frame k body = record { kind = k; body = body }

same_by : {A : Type 0} (other : A) (q : Bool) (a b : List ℕ) (read : List ℕ → A) → (q ≡ true → a ≡ b) → (if q then read a else other) ≡ (if q then read b else other)
same_by other true a b read h = ap read (h refl)
same_by other false a b read h = refl

same_own : (kept : List KeptReport) (foreign : Bool) (kind : ℕ) (a b : List ℕ) → (kind ≡ PARAMETER_STATUS → foreign ≡ false → a ≡ b) → is_own kept foreign (a_frame kind a) ≡ is_own kept foreign (a_frame kind b)
same_own kept true kind a b h = refl
same_own kept false kind a b h = same_by true (kind == PARAMETER_STATUS) a b (λ (x : List ℕ). names_kept kept (status_of x)) (λ q. h (eqb-true kind PARAMETER_STATUS q) refl)

same_kept : (kept : List KeptReport) (foreign : Bool) (kind : ℕ) (a b : List ℕ) → (kind ≡ PARAMETER_STATUS → foreign ≡ false → a ≡ b) → kept_after kept foreign (a_frame kind a) ≡ kept_after kept foreign (a_frame kind b)
same_kept kept true kind a b h = refl
same_kept kept false kind a b h = same_by kept (kind == PARAMETER_STATUS) a b (λ (x : List ℕ). told_by kept (status_of x)) (λ q. h (eqb-true kind PARAMETER_STATUS q) refl)

body_of : (f : FrameOf) → drop HEAD (spelling f) ≡ f.body
body_of f = refl

last-is : (held bytes : List ℕ) (count : ℕ) → count ≡ length bytes → drop (length (held ++ bytes) - count) (held ++ bytes) ≡ bytes
last-is held bytes count e =
    let l : length (held ++ bytes) ≡ length held + length bytes = length-append held bytes in
    let n : length (held ++ bytes) - count ≡ length held = omega (arith, l, e) in
    ap (λ (k : ℕ). drop k (held ++ bytes)) n ∙ drop-append_seam held bytes

module _ (kept after : List KeptReport) (tc td : FlowView) (ps : Passed) (own : Bool) (front : List ℕ) (y : Passes tc td ps) (s : Spells tc.side tc.limit (front ++ y.bytes) ps.kind ps.status ps.is_foreign)
    (server : tc.side ≡ Server) (o : Opens tc.side tc.limit front tc.kind tc.rest) (r : IsRead kept after own td ps) where
  read_body : ps.kind ≡ PARAMETER_STATUS → ps.is_foreign ≡ false → last_body td ps.count ≡ s.frame.body
  read_body k f =
      let e : front ≡ [] = o.border (y.at_once server k f) in
      let b : y.bytes ≡ spelling s.frame = ap (λ (x : List ℕ). x ++ y.bytes) (sym e) ∙ s.spelled in
      let l : drop (length td.held - ps.count) td.held ≡ y.bytes = ap (λ (x : List ℕ). drop (length x - ps.count) x) y.held ∙ last-is tc.held y.bytes ps.count y.count in
      ap (drop HEAD) (l ∙ b) ∙ body_of s.frame

  own_is : own ≡ is_own kept (is_foreign s.frame) s.frame
  own_is = r.own_is ∙ same_own kept ps.is_foreign ps.kind (last_body td ps.count) s.frame.body read_body ∙ ap₂ (λ (f : Bool) (k : ℕ). is_own kept f (a_frame k s.frame.body)) (s.foreign_is server) (sym s.kind_is)

  kept_is : after ≡ kept_after kept (is_foreign s.frame) s.frame
  kept_is = r.kept_is ∙ same_kept kept ps.is_foreign ps.kind (last_body td ps.count) s.frame.body read_body ∙ ap₂ (λ (f : Bool) (k : ℕ). kept_after kept f (a_frame k s.frame.body)) (s.foreign_is server) (sym s.kind_is)

arrives_by : (t u : Told) (tc td : FlowView) (ps : Passed) (own : Bool) (front : List ℕ) (y : Passes tc td ps) (s : Spells tc.side tc.limit (front ++ y.bytes) ps.kind ps.status ps.is_foreign)
    → tc.side ≡ Server → Opens tc.side tc.limit front tc.kind tc.rest → u.tally ≡ told_arrived ps own t.tally → IsRead t.reports u.reports own td ps → Arrives t u ps own s.frame
arrives_by t u tc td ps own front y s server o e r = record {
  kind_is = s.kind_is;
  status_is = s.status_is server;
  own_is = own_is t.reports u.reports tc td ps own front y s server o r;
  tally_is = e;
  reports_is = kept_is t.reports u.reports tc td ps own front y s server o r;
}

more_frames : (fs : List FrameOf) (f : FrameOf) → flat_map spelling (fs ++ f ∷ []) ≡ flat_map spelling fs ++ spelling f
more_frames fs f = flat_map-append spelling fs (f ∷ []) ∙ ap (λ (b : List ℕ). flat_map spelling fs ++ b) (append-nil (spelling f))

-- ---- the moves

pub lease_stays_link : (p : Place) (cf : ClientFacts) (l : Standing) (k : StartKeyOf) (n : ℕ) (b : ℕ) (sk : Option KeyView) (w : KeyWord) (gr : List ℕ) (tl : FlowView) (tm : FlowView) (tc : FlowView) (t : Told) (fs : Flags) (ph : Phase)
    → Stays tl tm
    → IsLease p (relay_view cf l k n b sk w gr tl tc t fs ph) → IsLease p (relay_view cf l k n b sk w gr tm tc t fs ph)
lease_stays_link p cf l k n b sk w gr tl tm tc t fs ph y x = link_side p cf l k n b sk w gr tl tc t fs ph x tm t x.forwarded x.tail y.limit (record {
  flow = flow_stays Client tl tm y x.goes.flow;
  opens = stay_opens x.tail tl tm y x.goes.opens;
  tail_bytes = x.goes.tail_bytes;
  went = same_went x.forwarded tl.limit tm.limit y.limit x.goes.went;
  on_way = rw y.held x.goes.on_way;
  taken = λ z. rw y.part (x.goes.taken z);
}) x.tally

pub lease_stays_client : (p : Place) (cf : ClientFacts) (l : Standing) (k : StartKeyOf) (n : ℕ) (b : ℕ) (sk : Option KeyView) (w : KeyWord) (gr : List ℕ) (tl : FlowView) (tc : FlowView) (td : FlowView) (t : Told) (fs : Flags) (ph : Phase)
    → Stays tc td
    → IsLease p (relay_view cf l k n b sk w gr tl tc t fs ph) → IsLease p (relay_view cf l k n b sk w gr tl td t fs ph)
lease_stays_client p cf l k n b sk w gr tl tc td t fs ph y x = client_side p cf l k n b sk w gr tl tc t fs ph x td t x.arrived x.front y.limit (record {
  flow = flow_stays Server tc td y x.comes.flow;
  opens = stay_opens x.front tc td y x.comes.opens;
  came = x.comes.came;
  given = x.comes.given;
  out = rw (y.held, y.part) x.comes.out;
  whole = rw y.part x.comes.whole;
}) x.tally

pub lease_part_link : (p : Place) (cf : ClientFacts) (l : Standing) (k : StartKeyOf) (n : ℕ) (b : ℕ) (sk : Option KeyView) (w : KeyWord) (gr : List ℕ) (tl : FlowView) (tm : FlowView) (tc : FlowView) (t : Told) (fs : Flags) (ph : Phase) (ps : Passed)
    → is_open tl.ends ≡ true → Passes tl tm ps → ps.whole ≡ false
    → IsLease p (relay_view cf l k n b sk w gr tl tc t fs ph) → IsLease p (relay_view cf l k n b sk w gr tm tc t fs ph)
lease_part_link p cf l k n b sk w gr tl tm tc t fs ph ps o y h x = link_side p cf l k n b sk w gr tl tc t fs ph x tm t x.forwarded (x.tail ++ y.bytes) y.limit (record {
  flow = flow_open Client tl tm y.side y.limit y.ends o x.goes.flow;
  opens = rw (y.side, y.limit) (y.opens h x.tail x.goes.opens);
  tail_bytes = bytes_both x.tail y.bytes x.goes.tail_bytes y.are_bytes;
  went = same_went x.forwarded tl.limit tm.limit y.limit x.goes.went;
  on_way = cc (x.goes.on_way, y.held, append_assoc x.sent tl.held y.bytes, append_assoc (flat_map spelling x.forwarded) x.tail y.bytes);
  taken = λ z. cc (x.goes.taken z, y.part, append_assoc x.tail y.bytes tm.part);
}) x.tally

pub lease_whole_link : (p : Place) (cf : ClientFacts) (l : Standing) (k : StartKeyOf) (n : ℕ) (b : ℕ) (sk : Option KeyView) (w : KeyWord) (gr : List ℕ) (tl : FlowView) (tm : FlowView) (tc : FlowView) (t : Told) (u : Told) (fs : Flags) (ph : Phase) (ps : Passed)
    → CallsTell → is_open tl.ends ≡ true → Passes tl tm ps → ps.whole ≡ true → u.tally ≡ told_sent ps.kind t.tally → u.reports ≡ t.reports
    → IsLease p (relay_view cf l k n b sk w gr tl tc t fs ph) → IsLease p (relay_view cf l k n b sk w gr tm tc u fs ph)
lease_whole_link p cf l k n b sk w gr tl tm tc t u fs ph ps law o y h e r x =
    let s : Spells tl.side tl.limit (x.tail ++ y.bytes) ps.kind ps.status ps.is_foreign = y.spells h x.tail x.goes.opens in
    link_side p cf l k n b sk w gr tl tc t fs ph x tm u (x.forwarded ++ s.frame ∷ []) [] y.limit (record {
      flow = flow_open Client tl tm y.side y.limit y.ends o x.goes.flow;
      opens = no_opens tm (y.border h);
      tail_bytes = λ i. omega arith;
      went = all-append (IsForwarded tm.limit) x.forwarded (s.frame ∷ []) (same_went x.forwarded tl.limit tm.limit y.limit x.goes.went) (forwarded tl.limit tm.limit tl.side (x.tail ++ y.bytes) ps.kind ps.status ps.is_foreign s x.goes.flow.side_is y.limit x.goes.flow.high (bytes_both x.tail y.bytes x.goes.tail_bytes y.are_bytes) y.goes_on, tt);
      on_way = cc (x.goes.on_way, y.held, append_assoc x.sent tl.held y.bytes, append_assoc (flat_map spelling x.forwarded) x.tail y.bytes, s.spelled, more_frames x.forwarded s.frame, append-nil (flat_map spelling (x.forwarded ++ s.frame ∷ [])));
      taken = λ z. cc (x.goes.taken z, y.part, append_assoc x.tail y.bytes tm.part, append_assoc (flat_map spelling x.forwarded) (spelling s.frame) tm.part, s.spelled, more_frames x.forwarded s.frame);
    }) (tells_sent p.reports t u ps.kind s.frame x.forwarded x.arrived law e r s.kind_is x.tally)

pub lease_part_client : (p : Place) (cf : ClientFacts) (l : Standing) (k : StartKeyOf) (n : ℕ) (b : ℕ) (sk : Option KeyView) (w : KeyWord) (gr : List ℕ) (tl : FlowView) (tc : FlowView) (td : FlowView) (t : Told) (fs : Flags) (ph : Phase) (ps : Passed)
    → is_open tc.ends ≡ true → Passes tc td ps → ps.whole ≡ false
    → IsLease p (relay_view cf l k n b sk w gr tl tc t fs ph) → IsLease p (relay_view cf l k n b sk w gr tl td t fs ph)
lease_part_client p cf l k n b sk w gr tl tc td t fs ph ps o y h x = client_side p cf l k n b sk w gr tl tc t fs ph x td t x.arrived (x.front ++ y.bytes) y.limit (record {
  flow = flow_open Server tc td y.side y.limit y.ends o x.comes.flow;
  opens = rw (y.side, y.limit) (y.opens h x.front x.comes.opens);
  came = x.comes.came;
  given = x.comes.given;
  out = cc (x.comes.out, y.held, y.part, append_assoc tc.held y.bytes td.part);
  whole = cc (x.comes.whole, y.part, append_assoc x.front y.bytes td.part);
}) x.tally

pub lease_whole_client : (p : Place) (cf : ClientFacts) (l : Standing) (k : StartKeyOf) (n : ℕ) (b : ℕ) (sk : Option KeyView) (w : KeyWord) (gr : List ℕ) (tl : FlowView) (tc : FlowView) (td : FlowView) (t : Told) (u : Told) (fs : Flags) (ph : Phase) (ps : Passed) (own : Bool)
    → CallsTell → is_open tc.ends ≡ true → Passes tc td ps → ps.whole ≡ true → u.tally ≡ told_arrived ps own t.tally → IsRead t.reports u.reports own td ps
    → IsLease p (relay_view cf l k n b sk w gr tl tc t fs ph) → IsLease p (relay_view cf l k n b sk w gr tl td u fs ph)
lease_whole_client p cf l k n b sk w gr tl tc td t u fs ph ps own law o y h e r x =
    let s : Spells tc.side tc.limit (x.front ++ y.bytes) ps.kind ps.status ps.is_foreign = y.spells h x.front x.comes.opens in
    client_side p cf l k n b sk w gr tl tc t fs ph x td u (x.arrived ++ s.frame ∷ []) [] y.limit (record {
      flow = flow_open Server tc td y.side y.limit y.ends o x.comes.flow;
      opens = no_opens td (y.border h);
      came = all-append (IsFrame Server MAX_FRAME) x.arrived (s.frame ∷ []) x.comes.came (arrived tc.limit tc.side (x.front ++ y.bytes) ps.kind ps.status ps.is_foreign s x.comes.flow.side_is x.comes.flow.high, tt);
      given = x.comes.given;
      out = cc (x.comes.out, y.held, y.part, append_assoc tc.held y.bytes td.part);
      whole = cc (x.comes.whole, y.part, append_assoc x.front y.bytes td.part, append_assoc (flat_map spelling x.arrived) (spelling s.frame) td.part, s.spelled, more_frames x.arrived s.frame);
    }) (tells_arrived p.reports t u ps own s.frame x.forwarded x.arrived law (arrives_by t u tc td ps own x.front y s x.comes.flow.side_is x.comes.opens e r) x.tally)

pub lease_may_end : (p : Place) (v : RelayView) (td : FlowView) (ps : Passed) (own : Bool) (after : List KeptReport) → IsLease p v → Passes v.to_client td ps → ps.whole ≡ true → IsRead v.told.reports after own td ps → may_end ps.status (begun_arrived ps own v.told.tally) ≡ true
lease_may_end p v td ps own after x y h r =
    let s : Spells v.to_client.side v.to_client.limit (x.front ++ y.bytes) ps.kind ps.status ps.is_foreign = y.spells h x.front x.comes.opens in
    status_may_end v.told.reports v.told.tally ps own s.frame s.kind_is (s.status_is x.comes.flow.side_is) (own_is v.told.reports after v.to_client td ps own x.front y s x.comes.flow.side_is x.comes.opens r)

pub passed_count : (v w : FlowView) (ps : Passed) → Passes v w ps → ps.count ≤ length w.held
passed_count v w ps y =
    let l : length w.held ≡ length v.held + length y.bytes = ap length y.held ∙ length-append v.held y.bytes in
    omega (arith, l, y.count)

pub lease_head : (p : Place) (v : RelayView) (td : FlowView) (ps : Passed) → IsLease p v → Passes v.to_client td ps → ps.whole ≡ true → ps.kind ≡ PARAMETER_STATUS → ps.is_foreign ≡ false → HEAD ≤ ps.count
lease_head p v td ps x y h k f =
    let s : Spells v.to_client.side v.to_client.limit (x.front ++ y.bytes) ps.kind ps.status ps.is_foreign = y.spells h x.front x.comes.opens in
    let e : x.front ≡ [] = x.comes.opens.border (y.at_once x.comes.flow.side_is k f) in
    let b : length y.bytes ≡ length (spelling s.frame) = ap (λ (a : List ℕ). length (a ++ y.bytes)) (sym e) ∙ ap length s.spelled in
    omega (arith, b, y.count)
