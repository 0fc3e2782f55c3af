-- What a `Traffic` keeps of the two lists, and what each call makes of it.
use Rattle.std.specs.Prelude.{◌≡◌, ℕ, Bool, true, false, not, ◌&&◌, ◌||◌, ◌==◌, nat_lt, min, List, Option, Some, None, if◌then◌else◌}
use Rattle.std.specs.Option.{is_some, is_none, option_or}
use Rattle.frame_view.specs.Frames.{is_closing}
use Rattle.disposal.specs.declared.TheConstants.{FULL}
use Rattle.disposal.specs.declared.Verdict.{Verdict}
use Rattle.disposal.specs.declared.Verdict.TheVariants.{Broken, MidFrame, Unanswered, InBlock, Settled}
use Rattle.disposal.specs.Traffics.{Sent, Got, more, closings, is_sending, last_sent, is_ready, readies, is_idle, idles, getting, last_status, is_foreign, has_broken, goes_on, is_block}

-- counts that stop at the greatest, and the last of each
pub record Tally : Type 0 where
  pub asked : ℕ
  pub answered : ℕ
  pub ended : ℕ
  pub is_sending : Bool
  pub last_sent : Option ℕ
  pub getting : Option ℕ
  pub status : Option ℕ
  pub has_broken : Bool

abbrev pub tally_of : List Sent → List Got → Tally
tally_of sent got = record {
  asked = min (closings sent) FULL;
  answered = min (readies got) FULL;
  ended = min (idles got) FULL;
  is_sending = is_sending sent;
  last_sent = last_sent sent;
  getting = getting got;
  status = last_status got;
  has_broken = has_broken got;
}

abbrev pub is_ready_open : Option ℕ → Bool
is_ready_open None = false
is_ready_open (Some kind) = is_ready kind

-- Unless something broke, each ReadyForQuery that came to its end told its status: where none was told,
-- no other came than one that hasn't ended.
abbrev pub has_told : Tally → Bool
has_told t = t.has_broken || is_some t.status || t.answered == more 0 (is_ready_open t.getting)

-- Nothing else told one: where no ReadyForQuery came, none was told.
abbrev pub told_alone : Tally → Bool
told_alone t = nat_lt 0 t.answered || (is_none t.status && not (is_ready_open t.getting))

-- The tally tells of these two lists, and they are such as the calls can make.
pub record Tells (t : Tally) (sent : List Sent) (got : List Got) : Type 0 where
  pub counts : t ≡ tally_of sent got
  pub told : has_told t ≡ true
  pub alone : told_alone t ≡ true

-- ---- the calls

-- one more, where this is so; the greatest count stays
abbrev pub counted : ℕ → Bool → ℕ
counted count is_one = min (more count is_one) FULL

abbrev pub send_begun : ℕ → Tally → Tally
send_begun kind t = record t { asked = counted t.asked (is_closing kind); is_sending = true; last_sent = Some kind }

abbrev pub send_ended : Tally → Tally
send_ended t = record t { is_sending = false }

abbrev pub got_begun : ℕ → Tally → Tally
got_begun kind t = record t { answered = counted t.answered (is_ready kind); getting = Some kind }

-- A frame that has begun may end. A status is told at the end of a ReadyForQuery alone, and there
-- always, unless something broke.
abbrev pub may_end : Option ℕ → Tally → Bool
may_end (Some status) t = is_ready_open t.getting
may_end None t = is_some t.getting && (t.has_broken || not (is_ready_open t.getting))

abbrev pub got_ended : Option ℕ → Tally → Tally
got_ended status t = record t { getting = None; ended = counted t.ended (is_idle status); status = option_or status t.status; has_broken = t.has_broken || is_foreign status }

abbrev pub got_broken : Tally → Tally
got_broken t = record t { has_broken = true }

-- ---- the verdict, by the counts

abbrev pub is_out_of_count : Tally → Bool
is_out_of_count t = nat_lt t.asked t.answered || t.asked == FULL || t.answered == FULL

abbrev pub verdict_of : Tally → Verdict
verdict_of t =
    if t.has_broken || is_out_of_count t then Broken else
    if t.is_sending || is_some t.getting then MidFrame else
    if nat_lt t.answered t.asked || goes_on t.last_sent then Unanswered else
    if is_block t.status then InBlock else
    Settled
