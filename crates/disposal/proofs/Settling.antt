-- Where the verdict is Settled the lists are.
use Rattle.std.proofs.Common.{◌≡◌, ℕ, ◌<◌, ◌⊎◌, inl, inr, Bool, true, false, List, [], ◌∷◌, Option, Some, None, refl, ap, sym, ◌∙◌, subst, arith, eqb-true}
use Rattle.std.specs.Prelude.{not, ◌||◌, ◌&&◌, ◌==◌, nat_lt, min, fold, if◌then◌else◌}
use Rattle.std.specs.Option.{is_some, is_none, option_or}
use Rattle.std.proofs.lemmas.Bool.{false≢true, eqb-false, ne_eqb, ltb-false, le-ltb}
use Rattle.frame_view.specs.Frames.{is_closing}
use Rattle.message_view.specs.declared.kinds.TheConstants.{IDLE, IN_TRANSACTION, FAILED}
use Rattle.disposal.specs.declared.TheConstants.{FULL}
use Rattle.disposal.specs.declared.Verdict.TheVariants.{Broken, MidFrame, Unanswered, InBlock, Settled}
use Rattle.disposal.specs.Traffics.{Sent, SendBegins, SendEnds, Got, GetBegins, GetEnds, Breaks, more, begins_closing, closings, is_sending, or_later, last_sent, readies, getting, status_after, last_status, is_foreign, breaks, has_broken, goes_on, is_block, IsSettled}
use Rattle.disposal.specs.Tallies.{Tally, tally_of, has_told, told_alone, is_ready_open, is_out_of_count, verdict_of}
use Rattle.disposal.specs.Laws.{SettledExactly}

-- ---- of lists

abbrev closes : Option ℕ → Bool
closes None = false
closes (Some kind) = is_closing kind

counts_one : (n : ℕ) (b : Bool) → b ≡ true → 0 < more n b
counts_one n true e = omega arith
counts_one n false e = absurd (false≢true e)

-- where the last frame sent is a closing message, one was counted
some_closing : (n : ℕ) (l : Option ℕ) (sent : List Sent) → (closes l ≡ true → 0 < n) → closes (fold or_later l sent) ≡ true → 0 < fold (λ count event. more count (begins_closing event)) n sent
some_closing n l [] before last = before last
some_closing n l (SendBegins kind ∷ sent) before last = some_closing (more n (is_closing kind)) (Some kind) sent (counts_one n (is_closing kind)) last
some_closing n l (SendEnds ∷ sent) before last = some_closing (more n false) l sent (λ e. omega (arith, before e)) last

or_false : (a b : Bool) → (a || b) ≡ false → (a ≡ false) × (b ≡ false)
or_false false b e = (refl, e)
or_false true b e = absurd (false≢true (sym e))

kept_status : (x y : Option ℕ) → is_foreign x ≡ false → is_foreign y ≡ false → is_foreign (option_or x y) ≡ false
kept_status None y ex ey = ey
kept_status (Some x) y ex ey = ex

-- where nothing broke, the last status is one of the three
known_status : (b : Bool) (x : Option ℕ) (got : List Got) → (b ≡ false → is_foreign x ≡ false) → fold (λ before event. before || breaks event) b got ≡ false → is_foreign (fold status_after x got) ≡ false
known_status b x [] before e = before e
known_status b x (GetBegins kind ∷ got) before e = known_status (b || false) x got (λ o. before (or_false b false o).0) e
known_status b x (GetEnds status ∷ got) before e = known_status (b || is_foreign status) (option_or status x) got (λ o. kept_status status x (or_false b (is_foreign status) o).1 (before (or_false b (is_foreign status) o).0)) e
known_status b x (Breaks ∷ got) before e = known_status (b || true) x got (λ o. absurd (false≢true (sym (or_false b true o).1))) e

-- ---- sound

choice : (a b c d : Bool) → (if a then Broken else if b then MidFrame else if c then Unanswered else if d then InBlock else Settled) ≡ Settled → (a ≡ false) × (b ≡ false) × (c ≡ false) × (d ≡ false)
choice true b c d e = absurd (cc e)
choice false true c d e = absurd (cc e)
choice false false true d e = absurd (cc e)
choice false false false true e = absurd (cc e)
choice false false false false e = (refl, refl, refl, refl)

no_frame : (x : Option ℕ) → is_some x ≡ false → x ≡ None
no_frame None e = refl
no_frame (Some x) e = absurd (false≢true (sym e))

is_closed : (b : Bool) → not b ≡ false → b ≡ true
is_closed true e = refl
is_closed false e = absurd (false≢true (sym e))

-- a status that is one of the three, and not that of a block
idle_status : (a b c : Bool) → not (a || b || c) ≡ false → (b || c) ≡ false → a ≡ true
idle_status true b c known outside = refl
idle_status false true c known outside = absurd (false≢true (sym outside))
idle_status false false true known outside = absurd (false≢true (sym outside))
idle_status false false false known outside = absurd (false≢true (sym known))

none_told : (n : ℕ) → (min n FULL == 0) ≡ true → n ≡ 0
none_told n e = omega (arith, eqb-true (min n FULL) 0 e)

status_told : (sent : List Sent) (got : List Got) (x : Option ℕ) → last_status got ≡ x → has_told (tally_of sent got) ≡ true → has_broken got ≡ false → getting got ≡ None → 0 < readies got → is_block x ≡ false → is_foreign x ≡ false → x ≡ Some IDLE
status_told sent got (Some s) e told unbroken border some outside known = ap Some (eqb-true s IDLE (idle_status (s == IDLE) (s == IN_TRANSACTION) (s == FAILED) known outside))
status_told sent got None e told unbroken border some outside known =
    let zero_came = none_told (readies got) (cc (told, e, unbroken, border)) in
    absurd (omega (arith, some, zero_came))

rests : (sent : List Sent) (got : List Got) (l : Option ℕ) → last_sent sent ≡ l → has_told (tally_of sent got) ≡ true → has_broken got ≡ false → getting got ≡ None → readies got ≡ closings sent → goes_on l ≡ false → is_block (last_status got) ≡ false
    → (last_sent sent ≡ None) ⊎ ((kind : ℕ) × (last_sent sent ≡ Some kind) × (is_closing kind ≡ true) × (last_status got ≡ Some IDLE))
rests sent got None e told unbroken border same ends outside = inl e
rests sent got (Some kind) e told unbroken border same ends outside =
    let closing = is_closed (is_closing kind) ends in
    let some = some_closing 0 None sent (λ o. absurd (false≢true o)) (ap closes e ∙ closing) in
    let known = known_status false None got (λ o. refl) unbroken in
    inr (kind, e, closing, status_told sent got (last_status got) refl told unbroken border (omega (arith, some, same)) outside known)

below_full : (n : ℕ) → (min n FULL == FULL) ≡ false → n < FULL
below_full n e = omega (arith, eqb-false (min n FULL) FULL e)

same_count : (n m : ℕ) → nat_lt (min n FULL) (min m FULL) ≡ false → n < FULL → m < FULL → nat_lt (min m FULL) (min n FULL) ≡ false → m ≡ n
same_count n m more n_counts m_counts fewer = omega (arith, n_counts, m_counts, ltb-false (min n FULL) (min m FULL) more, ltb-false (min m FULL) (min n FULL) fewer)

sound : (sent : List Sent) (got : List Got) → has_told (tally_of sent got) ≡ true → verdict_of (tally_of sent got) ≡ Settled → IsSettled sent got
sound sent got told e =
    let n = closings sent in
    let m = readies got in
    let parts = choice (has_broken got || is_out_of_count (tally_of sent got)) (is_sending sent || is_some (getting got)) (nat_lt (min m FULL) (min n FULL) || goes_on (last_sent sent)) (is_block (last_status got)) e in
    let whole = or_false (has_broken got) (is_out_of_count (tally_of sent got)) parts.0 in
    let counts = or_false (nat_lt (min n FULL) (min m FULL) || min n FULL == FULL) (min m FULL == FULL) whole.1 in
    let asked = or_false (nat_lt (min n FULL) (min m FULL)) (min n FULL == FULL) counts.0 in
    let borders = or_false (is_sending sent) (is_some (getting got)) parts.1 in
    let answers = or_false (nat_lt (min m FULL) (min n FULL)) (goes_on (last_sent sent)) parts.2 in
    let border = no_frame (getting got) borders.1 in
    let same = same_count n m asked.0 (below_full n asked.1) (below_full m counts.1) answers.0 in
    record {
      unbroken = whole.0;
      sent_border = borders.0;
      got_border = border;
      answered = same;
      counted = below_full n asked.1;
      at_rest = rests sent got (last_sent sent) refl told whole.0 border same answers.1 parts.3;
    }

-- ---- complete

not_full : (n : ℕ) → n < FULL → (min n FULL == FULL) ≡ false
not_full n counts = ne_eqb (min n FULL) FULL (λ same. omega (arith, counts, same))

not_less : (n m : ℕ) → n ≡ m → nat_lt (min n FULL) (min m FULL) ≡ false
not_less n m same = le-ltb (min n FULL) (min m FULL) (omega (arith, same))

chosen : (a b c d : Bool) → a ≡ false → b ≡ false → c ≡ false → d ≡ false → (if a then Broken else if b then MidFrame else if c then Unanswered else if d then InBlock else Settled) ≡ Settled
chosen a b c d ea eb ec ed = rw (ea, eb, ec, ed) refl

neither : (a b : Bool) → a ≡ false → b ≡ false → (a || b) ≡ false
neither a b ea eb = rw (ea, eb) refl

closes_last : (sent : List Sent) (got : List Got) → (last_sent sent ≡ None) ⊎ ((kind : ℕ) × (last_sent sent ≡ Some kind) × (is_closing kind ≡ true) × (last_status got ≡ Some IDLE)) → goes_on (last_sent sent) ≡ false
closes_last sent got (inl none) = ap goes_on none
closes_last sent got (inr some) = ap goes_on some.1 ∙ ap not some.2

no_closing : (n : ℕ) (l : Option ℕ) (sent : List Sent) → is_some (fold or_later l sent) ≡ false → (fold (λ count event. more count (begins_closing event)) n sent ≡ n) × (is_some l ≡ false)
no_closing n l [] e = (refl, e)
no_closing n l (SendBegins kind ∷ sent) e = absurd (false≢true (sym (no_closing (more n (is_closing kind)) (Some kind) sent e).1))
no_closing n l (SendEnds ∷ sent) e = let o = no_closing (more n false) l sent e in (omega (arith, o.0), o.1)

both_true : (a b : Bool) → (a && b) ≡ true → a ≡ true
both_true true b e = refl
both_true false b e = absurd (false≢true e)

no_status : (x : Option ℕ) → is_none x ≡ true → is_block x ≡ false
no_status None e = refl
no_status (Some x) e = absurd (false≢true e)

none_came : (sent : List Sent) (got : List Got) (n : ℕ) → readies got ≡ n → n ≡ 0 → told_alone (tally_of sent got) ≡ true → is_none (last_status got) ≡ true
none_came sent got n same none alone = both_true (is_none (last_status got)) _ (subst (λ (k : ℕ). (nat_lt 0 (min k FULL) || (is_none (last_status got) && not (is_ready_open (getting got)))) ≡ true) (same ∙ none) alone)

outside : (sent : List Sent) (got : List Got) → told_alone (tally_of sent got) ≡ true → readies got ≡ closings sent → (last_sent sent ≡ None) ⊎ ((kind : ℕ) × (last_sent sent ≡ Some kind) × (is_closing kind ≡ true) × (last_status got ≡ Some IDLE)) → is_block (last_status got) ≡ false
outside sent got alone same (inr some) = ap is_block some.3
outside sent got alone same (inl none) = no_status (last_status got) (none_came sent got (closings sent) same (no_closing 0 None sent (ap is_some none)).0 alone)

complete : (sent : List Sent) (got : List Got) → told_alone (tally_of sent got) ≡ true → IsSettled sent got → verdict_of (tally_of sent got) ≡ Settled
complete sent got alone s =
    let n = closings sent in
    let m = readies got in
    let asked = neither (nat_lt (min n FULL) (min m FULL)) (min n FULL == FULL) (not_less n m (sym s.answered)) (not_full n s.counted) in
    let in_count = neither (nat_lt (min n FULL) (min m FULL) || min n FULL == FULL) (min m FULL == FULL) asked (not_full m (omega (arith, s.counted, s.answered))) in
    chosen (has_broken got || is_out_of_count (tally_of sent got)) (is_sending sent || is_some (getting got)) (nat_lt (min m FULL) (min n FULL) || goes_on (last_sent sent)) (is_block (last_status got))
    (neither (has_broken got) (is_out_of_count (tally_of sent got)) s.unbroken in_count)
    (neither (is_sending sent) (is_some (getting got)) s.sent_border (ap is_some s.got_border))
    (neither (nat_lt (min m FULL) (min n FULL)) (goes_on (last_sent sent)) (not_less m n s.answered) (closes_last sent got s.at_rest))
    (outside sent got alone s.answered s.at_rest)

pub settled-exactly : SettledExactly
settled-exactly = record {
  sound = λ t sent got tells e. sound sent got (subst (λ (u : Tally). has_told u ≡ true) tells.counts tells.told) (ap verdict_of (sym tells.counts) ∙ e);
  complete = λ t sent got tells s. ap verdict_of tells.counts ∙ complete sent got (subst (λ (u : Tally). told_alone u ≡ true) tells.counts tells.alone) s;
}
