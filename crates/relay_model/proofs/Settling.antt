-- What a settled verdict says of the frames, and what is told of one frame.
use Rattle.std.proofs.Common.{◌≡◌, ◌⊎◌, inl, inr, ⊎_elim, ℕ, ◌+◌, Bool, true, false, List, [], ◌∷◌, ◌++◌, length, Option, Some, None, refl, sym, ap, ap₂, ◌∙◌, arith, append_assoc, append-nil, subst, eqb-true}
use Rattle.std.specs.Prelude.{◌==◌, ◌&&◌, ◌||◌, not, fold, nat_lt, if◌then◌else◌}
use Rattle.std.specs.Option.{option_or}
use Rattle.std.specs.List.{flat_map, AllByRecursion}
use Rattle.std.proofs.lemmas.Bool.{true≢false, false≢true, ne_eqb}
use Rattle.std.proofs.lemmas.Grind.{flat_map-append}
use Rattle.std.proofs.lemmas.Option.{same_Some}
use Rattle.frame_view.specs.Frames.{FrameOf, is_closing}
use Rattle.frame_view.specs.declared.server.TheConstants.{PARAMETER_STATUS, READY_FOR_QUERY}
use Rattle.message_view.specs.declared.kinds.TheConstants.{IDLE}
use Rattle.disposal.specs.Traffics as disposal
use Rattle.disposal.specs.Traffics.{Sent, SendBegins, SendEnds, Got, GetBegins, GetEnds, Breaks, more, begins_closing, begins_ready, or_later, status_after, breaks, is_foreign as foreign_status, IsSettled}
use Rattle.disposal.specs.Tallies.{Tally, Tells, may_end, got_begun, got_ended, send_begun, verdict_of}
use Rattle.disposal.specs.declared.Verdict.TheVariants.{Settled}
use Rattle.param_track.specs.KeptReports.{KeptReport}
use Rattle.link_run.specs.Links.{after_frame, after_frames}
use Rattle.disposal.specs.Laws.{CallsTell, SettledExactly}
use Rattle.session_run_laws.specs.Settling.{count, closes, is_ready, last_status, IsAnswered}
use Rattle.relay_flow.specs.declared.flow.Passed.{Passed}
use Rattle.relay_flow.specs.declared.parts.TheConstants.{MAX_STATUS}
use Rattle.relay_flow.specs.Parts.{byte_in, is_foreign, status_in}
use Rattle.relay_model.specs.Verdicts.{Told, is_own, kept_after, all_kept, or_breaks, or_broken, sent_as, came_as, all_came, begun_arrived, told_sent, told_arrived, Telling}

-- ---- nothing foreign came

abbrev breaks_by : Bool → Got → Bool
breaks_by before event = before || breaks event

abbrev IsUsual : FrameOf → Type 0
IsUsual f = is_foreign f ≡ false

-- each may be sent by a session that began with these reports
abbrev AreOwn : List KeptReport → List FrameOf → Type 0
AreOwn kept [] = Unit {0}
AreOwn kept (f ∷ fs) = (is_own kept (is_foreign f) f ≡ true) × AreOwn (kept_after kept (is_foreign f) f) fs

still_broken : (got : List Got) → fold breaks_by true got ≡ true
still_broken [] = refl
still_broken (x ∷ got) = still_broken got

or_true : (a b : Bool) → ((a || true) || b) ≡ true
or_true true b = refl
or_true false b = refl

-- a frame that came, and whether something was broken behind it
record Own (own : Bool) (rest : List Got) : Type 0 where
  is_one : own ≡ true
  behind : Bool
  unbroken : fold breaks_by behind rest ≡ false

own_by : (own b : Bool) (kind : ℕ) (status : Option ℕ) (rest : List Got) → fold breaks_by b (GetBegins kind ∷ or_breaks own (GetEnds status ∷ []) ++ rest) ≡ false → Own own rest
own_by true b kind status rest e = record { is_one = refl; behind = (b || false) || foreign_status status; unbroken = e }
own_by false b kind status rest e = absurd (true≢false (sym (ap (λ (s : Bool). fold breaks_by s rest) (or_true (b || false) (foreign_status status)) ∙ still_broken rest) ∙ e))

none_foreign : (b : Bool) (kept : List KeptReport) (fs : List FrameOf) → fold breaks_by b (all_came kept fs) ≡ false → AreOwn kept fs
none_foreign b kept [] e = tt
none_foreign b kept (f ∷ fs) e =
    let o = own_by (is_own kept (is_foreign f) f) b f.kind (status_in f) (all_came (kept_after kept (is_foreign f) f) fs) e in
    (o.is_one, none_foreign o.behind (kept_after kept (is_foreign f) f) fs o.unbroken)

usual_by : (kept : List KeptReport) (foreign : Bool) (f : FrameOf) → is_own kept foreign f ≡ true → foreign ≡ false
usual_by kept true f e = absurd (false≢true e)
usual_by kept false f e = refl

usual : (kept : List KeptReport) (fs : List FrameOf) → AreOwn kept fs → AllByRecursion IsUsual fs
usual kept [] h = tt
usual kept (f ∷ fs) h = (usual_by kept (is_foreign f) f h.0, usual (kept_after kept (is_foreign f) f) fs h.1)

abbrev own_as : FrameOf → List Got
own_as f = GetBegins f.kind ∷ GetEnds (status_in f) ∷ []

all_own : (kept : List KeptReport) (fs : List FrameOf) → AreOwn kept fs → all_came kept fs ≡ flat_map own_as fs
all_own kept [] h = refl
all_own kept (f ∷ fs) h = ap₂ (λ (c : Bool) (rest : List Got). GetBegins f.kind ∷ or_breaks c (GetEnds (status_in f) ∷ []) ++ rest) h.0 (all_own (kept_after kept (is_foreign f) f) fs h.1)

usual_kept : (kept : List KeptReport) (fs : List FrameOf) → AllByRecursion IsUsual fs → all_kept kept fs ≡ after_frames kept fs
usual_kept kept [] h = refl
usual_kept kept (f ∷ fs) h = ap (λ (foreign : Bool). all_kept (kept_after kept foreign f) fs) h.0 ∙ usual_kept (after_frame kept f) fs h.1

-- ---- counts

same_closings : (n : ℕ) (fs : List FrameOf) → fold (λ count event. more count (begins_closing event)) n (flat_map sent_as fs) ≡ n + count closes fs
same_closings n [] = omega arith
same_closings n (f ∷ fs) = same_closings (more (more n (is_closing f.kind)) false) fs ∙ omega arith

same_readies : (n : ℕ) (fs : List FrameOf) → fold (λ count event. more count (begins_ready event)) n (flat_map own_as fs) ≡ n + count is_ready fs
same_readies n [] = omega arith
same_readies n (f ∷ fs) = same_readies (more (more n (is_ready f)) false) fs ∙ omega arith

from_none : {a n : ℕ} → a ≡ 0 + n → a ≡ n
from_none e = omega (arith, e)

-- ---- the last frame sent

some_last : (kind : ℕ) (fs : List FrameOf) → fold or_later (Some kind) (flat_map sent_as fs) ≡ None → ⊥
some_last kind [] e = absurd (cc)
some_last kind (f ∷ fs) e = some_last f.kind fs e

none_sent : (fs : List FrameOf) → fold or_later None (flat_map sent_as fs) ≡ None → fs ≡ []
none_sent [] e = refl
none_sent (f ∷ fs) e = absurd (some_last f.kind fs e)

record EndsWith (fs : List FrameOf) (kind : ℕ) : Type 0 where
  before : List FrameOf
  final : FrameOf
  last : fs ≡ before ++ final ∷ []
  kind_is : final.kind ≡ kind

ends_with : (f : FrameOf) (fs : List FrameOf) (kind : ℕ) → fold or_later (Some f.kind) (flat_map sent_as fs) ≡ Some kind → EndsWith (f ∷ fs) kind
ends_with f [] kind e = record { before = []; final = f; last = refl; kind_is = same_Some f.kind kind e }
ends_with f (g ∷ fs) kind e = let x = ends_with g fs kind e in record { before = f ∷ x.before; final = x.final; last = ap (λ (t : List FrameOf). f ∷ t) x.last; kind_is = x.kind_is }

last_sent-is : (fs : List FrameOf) (kind : ℕ) → fold or_later None (flat_map sent_as fs) ≡ Some kind → EndsWith fs kind
last_sent-is [] kind e = absurd (cc)
last_sent-is (f ∷ fs) kind e = ends_with f fs kind e

-- ---- the last status

abbrev OneByte : List ℕ → Type 0
OneByte bytes = (b : ℕ) × (bytes ≡ b ∷ [])

one_byte : (bytes : List ℕ) → (length bytes == 1) ≡ true → OneByte bytes
one_byte [] e = absurd (omega (arith, eqb-true 0 1 e))
one_byte (b ∷ []) e = (b, refl)
one_byte (b ∷ c ∷ bytes) e = absurd (omega (arith, eqb-true (length (b ∷ c ∷ bytes)) 1 e))

one_of : (a b c : Bool) → ((a && not b) || c) ≡ false → a ≡ true → b ≡ true
one_of true true c e k = refl
one_of true false c e k = absurd (true≢false e)
one_of false b c e k = absurd (false≢true k)

own_ready : (f : FrameOf) → IsUsual f → is_ready f ≡ true → OneByte f.body
own_ready f own k = one_byte f.body (one_of (f.kind == READY_FOR_QUERY) (length f.body == 1) (f.kind == PARAMETER_STATUS && nat_lt MAX_STATUS (length f.body)) own k)

abbrev EndsIdle : List FrameOf → Type 0
EndsIdle fs = (x : Option ℕ) (body : List ℕ) → (x ≡ Some IDLE → body ≡ IDLE ∷ []) → fold status_after x (flat_map own_as fs) ≡ Some IDLE → last_status fs body ≡ IDLE ∷ []

by_ready : (f : FrameOf) (fs : List FrameOf) (x : Option ℕ) (body : List ℕ) (c : Bool) → EndsIdle fs → IsUsual f → (x ≡ Some IDLE → body ≡ IDLE ∷ []) → is_ready f ≡ c
    → fold status_after (option_or (if c then byte_in f.body else None) x) (flat_map own_as fs) ≡ Some IDLE → last_status fs (if c then f.body else body) ≡ IDLE ∷ []
by_ready f fs x body false next own i k e = next x body i e
by_ready f fs x body true next own i k e =
    let one = own_ready f own k in
    next (Some one.0) f.body (λ q. one.1 ∙ ap (λ (n : ℕ). n ∷ []) (same_Some one.0 IDLE q)) (ap (λ (bytes : List ℕ). fold status_after (option_or (byte_in bytes) x) (flat_map own_as fs)) (sym one.1) ∙ e)

ends_idle : (fs : List FrameOf) → AllByRecursion IsUsual fs → EndsIdle fs
ends_idle [] own x body i e = i e
ends_idle (f ∷ fs) own x body i e = by_ready f fs x body (is_ready f) (ends_idle fs own.1) own.0 i refl e

-- ---- what is settled was answered

settled : (kept : List KeptReport) (sent received : List FrameOf) → AreOwn kept received → IsSettled (flat_map sent_as sent) (all_came kept received) → (sent ≡ []) ⊎ IsAnswered sent received
settled kept sent received own s = ⊎_elim (λ none. inl (none_sent sent none)) (λ some. inr (answered some.0 some.1 some.2 some.3)) s.at_rest
  where
    got_is : all_came kept received ≡ flat_map own_as received
    got_is = all_own kept received own

    answered : (kind : ℕ) → fold or_later None (flat_map sent_as sent) ≡ Some kind → is_closing kind ≡ true → fold status_after None (all_came kept received) ≡ Some IDLE → IsAnswered sent received
    answered kind last closing idle =
        let x = last_sent-is sent kind last in
        record {
          equal = sym (from_none (same_closings 0 sent)) ∙ sym s.answered ∙ ap (λ (got : List Got). fold (λ count event. more count (begins_ready event)) 0 got) got_is ∙ from_none (same_readies 0 received);
          before = x.before;
          final = x.final;
          last = x.last;
          closing = ap is_closing x.kind_is ∙ closing;
          idle = ends_idle received (usual kept received own) None [] (λ e. absurd (cc)) (ap (λ (got : List Got). fold status_after None got) (sym got_is) ∙ idle);
        }

pub record Answered (kept : List KeptReport) (t : Told) (sent received : List FrameOf) : Type 0 where
  pub answers : (sent ≡ []) ⊎ IsAnswered sent received
  pub keeps : t.reports ≡ after_frames kept received

pub answered_by : (kept : List KeptReport) (t : Told) (sent received : List FrameOf) → SettledExactly → Telling kept t sent received → verdict_of t.tally ≡ Settled → Answered kept t sent received
answered_by kept t sent received law x e =
    let s : IsSettled (flat_map sent_as sent) (all_came kept received) = law.sound t.tally (flat_map sent_as sent) (all_came kept received) x.tells e in
    let own : AreOwn kept received = none_foreign false kept received s.unbroken in
    record { answers = settled kept sent received own s; keeps = x.keeps ∙ usual_kept kept received (usual kept received own) }

-- ---- what is told of one frame

sent-more : (fs : List FrameOf) (f : FrameOf) → (flat_map sent_as fs ++ SendBegins f.kind ∷ []) ++ SendEnds ∷ [] ≡ flat_map sent_as (fs ++ f ∷ [])
sent-more fs f = append_assoc (flat_map sent_as fs) (SendBegins f.kind ∷ []) (SendEnds ∷ []) ∙ sym (flat_map-append sent_as fs (f ∷ []))

pub tells_sent : (kept : List KeptReport) (t u : Told) (kind : ℕ) (f : FrameOf) (sent received : List FrameOf) → CallsTell → u.tally ≡ told_sent kind t.tally → u.reports ≡ t.reports → f.kind ≡ kind → Telling kept t sent received → Telling kept u (sent ++ f ∷ []) received
tells_sent kept t u kind f sent received law e r k x = record {
  sending = ap (λ (v : Tally). v.is_sending) e;
  getting = ap (λ (v : Tally). v.getting) e ∙ x.getting;
  tells = subst (λ (v : Tally). Tells v (flat_map sent_as (sent ++ f ∷ [])) (all_came kept received)) (sym e)
      (subst (λ (l : List Sent). Tells (told_sent kind t.tally) l (all_came kept received)) (sent-more sent f)
      (subst (λ (n : ℕ). Tells (told_sent kind t.tally) ((flat_map sent_as sent ++ SendBegins n ∷ []) ++ SendEnds ∷ []) (all_came kept received)) (sym k)
      (law.send_ends (send_begun kind t.tally) (flat_map sent_as sent ++ SendBegins kind ∷ []) (all_came kept received)
      (law.send_begins kind t.tally (flat_map sent_as sent) (all_came kept received) x.tells))));
  keeps = r ∙ x.keeps;
}

-- at the end of a frame that came, its status may be told
or_else : (a : Bool) → (a || true) ≡ true
or_else true = refl
or_else false = refl

ends_other : (kind : ℕ) (t : Tally) (own : Bool) → disposal.is_ready kind ≡ false → may_end None (or_broken own (got_begun kind t)) ≡ true
ends_other kind t true e = ap (λ (b : Bool). t.has_broken || not b) e ∙ or_else t.has_broken
ends_other kind t false e = refl

ends_ready : (kind b : ℕ) (t : Tally) (own : Bool) → disposal.is_ready kind ≡ true → may_end (Some b) (or_broken own (got_begun kind t)) ≡ true
ends_ready kind b t true e = e
ends_ready kind b t false e = e

ends_by : (k : Bool) (kept : List KeptReport) (f : FrameOf) (body : List ℕ) (t : Tally) (long : Bool) → disposal.is_ready f.kind ≡ k → may_end (if k then byte_in body else None) (or_broken (is_own kept ((k && not (length body == 1)) || long) f) (got_begun f.kind t)) ≡ true
ends_by false kept f body t long e = ends_other f.kind t (is_own kept long f) e
ends_by true kept f (b ∷ []) t long e = ends_ready f.kind b t (is_own kept long f) e
ends_by true kept f [] t long e = refl
ends_by true kept f (b ∷ c ∷ body) t long e = subst (λ (one : Bool). may_end None (or_broken (is_own kept (not one || long) f) (got_begun f.kind t)) ≡ true) (sym (ne_eqb (length (b ∷ c ∷ body)) 1 (λ same. omega (arith, same)))) refl

pub status_may_end : (kept : List KeptReport) (t : Tally) (p : Passed) (own : Bool) (f : FrameOf) → f.kind ≡ p.kind → p.status ≡ status_in f → own ≡ is_own kept (is_foreign f) f → may_end p.status (begun_arrived p own t) ≡ true
status_may_end kept t p own f k status o =
    ap₂ (λ (x : Option ℕ) (c : Bool). may_end x (or_broken c (got_begun p.kind t))) status o
    ∙ subst (λ (n : ℕ). may_end (status_in f) (or_broken (is_own kept (is_foreign f) f) (got_begun n t)) ≡ true) k (ends_by (f.kind == READY_FOR_QUERY) kept f f.body t (f.kind == PARAMETER_STATUS && nat_lt MAX_STATUS (length f.body)) refl)

came-more : (kept : List KeptReport) (fs : List FrameOf) (f : FrameOf) → all_came kept (fs ++ f ∷ []) ≡ all_came kept fs ++ came_as (all_kept kept fs) f
came-more kept [] f = append-nil (came_as kept f)
came-more kept (g ∷ fs) f =
    ap (λ (rest : List Got). came_as kept g ++ rest) (came-more (kept_after kept (is_foreign g) g) fs f)
    ∙ sym (append_assoc (came_as kept g) (all_came (kept_after kept (is_foreign g) g) fs) (came_as (all_kept (kept_after kept (is_foreign g) g) fs) f))

kept-more : (kept : List KeptReport) (fs : List FrameOf) (f : FrameOf) → all_kept kept (fs ++ f ∷ []) ≡ kept_after (all_kept kept fs) (is_foreign f) f
kept-more kept [] f = refl
kept-more kept (g ∷ fs) f = kept-more (kept_after kept (is_foreign g) g) fs f

-- the events of one frame, one after the other
came_in_turn : (own : Bool) (law : CallsTell) (t : Tally) (kind : ℕ) (status : Option ℕ) (sent : List Sent) (got : List Got) → t.getting ≡ None → may_end status (or_broken own (got_begun kind t)) ≡ true → Tells t sent got
    → Tells (got_ended status (or_broken own (got_begun kind t))) sent (got ++ GetBegins kind ∷ or_breaks own (GetEnds status ∷ []))
came_in_turn true law t kind status sent got border may x =
    subst (λ (l : List Got). Tells (got_ended status (got_begun kind t)) sent l) (append_assoc got (GetBegins kind ∷ []) (GetEnds status ∷ []))
    (law.get_ends status (got_begun kind t) sent (got ++ GetBegins kind ∷ []) may (law.get_begins kind t sent got border x))
came_in_turn false law t kind status sent got border may x =
    subst (λ (l : List Got). Tells (got_ended status (or_broken false (got_begun kind t))) sent l)
    (append_assoc (got ++ GetBegins kind ∷ []) (Breaks ∷ []) (GetEnds status ∷ []) ∙ append_assoc got (GetBegins kind ∷ []) (Breaks ∷ GetEnds status ∷ []))
    (law.get_ends status (or_broken false (got_begun kind t)) sent ((got ++ GetBegins kind ∷ []) ++ Breaks ∷ []) may (law.breaks (got_begun kind t) sent (got ++ GetBegins kind ∷ []) (law.get_begins kind t sent got border x)))

-- what is told of a frame that came
pub record Arrives (t u : Told) (p : Passed) (own : Bool) (f : FrameOf) : Type 0 where
  pub kind_is : f.kind ≡ p.kind
  pub status_is : p.status ≡ status_in f
  pub own_is : own ≡ is_own t.reports (is_foreign f) f
  pub tally_is : u.tally ≡ told_arrived p own t.tally
  pub reports_is : u.reports ≡ kept_after t.reports (is_foreign f) f

pub tells_arrived : (kept : List KeptReport) (t u : Told) (p : Passed) (own : Bool) (f : FrameOf) (sent received : List FrameOf) → CallsTell → Arrives t u p own f → Telling kept t sent received → Telling kept u sent (received ++ f ∷ [])
tells_arrived kept t u p own f sent received law a x = record {
  sending = ap (λ (v : Tally). v.is_sending) a.tally_is ∙ still_border own;
  getting = ap (λ (v : Tally). v.getting) a.tally_is;
  tells = subst (λ (v : Tally). Tells v (flat_map sent_as sent) (all_came kept (received ++ f ∷ []))) (sym a.tally_is)
      (subst (λ (l : List Got). Tells (told_arrived p own t.tally) (flat_map sent_as sent) l) events
      (came_in_turn own law t.tally p.kind p.status (flat_map sent_as sent) (all_came kept received) x.getting (status_may_end t.reports t.tally p own f a.kind_is a.status_is a.own_is) x.tells));
  keeps = a.reports_is ∙ ap (λ (k : List KeptReport). kept_after k (is_foreign f) f) x.keeps ∙ sym (kept-more kept received f);
}
  where
    still_border : (own : Bool) → (told_arrived p own t.tally).is_sending ≡ false
    still_border true = x.sending
    still_border false = x.sending

    one : (GetBegins p.kind ∷ or_breaks own (GetEnds p.status ∷ [])) ≡ came_as t.reports f
    one = rw (a.own_is, a.status_is, sym a.kind_is) refl

    events : all_came kept received ++ GetBegins p.kind ∷ or_breaks own (GetEnds p.status ∷ []) ≡ all_came kept (received ++ f ∷ [])
    events = ap (λ (l : List Got). all_came kept received ++ l) (one ∙ ap (λ (k : List KeptReport). came_as k f) x.keeps) ∙ sym (came-more kept received f)

pub tells_none : (kept : List KeptReport) (t : Told) → Tells t.tally [] [] → t.reports ≡ kept → Telling kept t [] []
tells_none kept t x r = record { sending = ap (λ (u : Tally). u.is_sending) x.counts; getting = ap (λ (u : Tally). u.getting) x.counts; tells = x; keeps = r }
