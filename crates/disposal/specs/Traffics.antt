-- What went over a link since it was last clean, as two lists, and what is to become of the link
-- (PostgreSQL manual, "Message Flow"; the verdict is this project's own).
use Rattle.std.specs.Prelude.{◌≡◌, ◌⊎◌, ℕ, ◌+◌, ◌<◌, Bool, true, false, not, ◌||◌, ◌==◌, nat_lt, nat_le, List, fold, Option, Some, None, if◌then◌else◌}
use Rattle.std.specs.Option.{is_some, option_or}
use Rattle.frame_view.specs.Frames.{is_closing}
use Rattle.frame_view.specs.declared.server.TheConstants.{READY_FOR_QUERY}
use Rattle.message_view.specs.declared.kinds.TheConstants.{IDLE, IN_TRANSACTION, FAILED}
use Rattle.disposal.specs.declared.TheConstants.{FULL}
use Rattle.disposal.specs.declared.Verdict.{Verdict}
use Rattle.disposal.specs.declared.Verdict.TheVariants.{Broken, MidFrame, Unanswered, InBlock, Settled}

-- what was sent, in its order: a frame of this type begins, or the frame that has begun ends
pub data Sent : Type 0 where
  SendBegins : ℕ → Sent
  SendEnds : Sent

-- what came, in its order: the same, where the end of a ReadyForQuery tells its status; or something
-- that no session sends
pub data Got : Type 0 where
  GetBegins : ℕ → Got
  GetEnds : Option ℕ → Got
  Breaks : Got

-- ---- of the list of what was sent

-- one more, where this is so
abbrev pub more : ℕ → Bool → ℕ
more count is_one = count + (if is_one then 1 else 0)

abbrev pub begins_closing : Sent → Bool
begins_closing (SendBegins kind) = is_closing kind
begins_closing SendEnds = false

-- how many Query, FunctionCall and Sync were sent, each counted as it begins
abbrev pub closings : List Sent → ℕ
closings sent = fold (λ count event. more count (begins_closing event)) 0 sent

abbrev pub begins_frame : Sent → Bool
begins_frame (SendBegins kind) = true
begins_frame SendEnds = false

-- whether a frame was sent in part
abbrev pub is_sending : List Sent → Bool
is_sending sent = fold (λ before event. begins_frame event) false sent

abbrev pub or_later : Option ℕ → Sent → Option ℕ
or_later before (SendBegins kind) = Some kind
or_later before SendEnds = before

-- the type of the last frame sent, where there is one
abbrev pub last_sent : List Sent → Option ℕ
last_sent sent = fold or_later None sent

-- ---- of the list of what came

abbrev pub is_ready : ℕ → Bool
is_ready kind = kind == READY_FOR_QUERY

abbrev pub begins_ready : Got → Bool
begins_ready (GetBegins kind) = is_ready kind
begins_ready _ = false

-- how many ReadyForQuery came, each counted as it begins
abbrev pub readies : List Got → ℕ
readies got = fold (λ count event. more count (begins_ready event)) 0 got

abbrev pub is_idle : Option ℕ → Bool
is_idle None = false
is_idle (Some status) = status == IDLE

abbrev pub ends_idle : Got → Bool
ends_idle (GetEnds status) = is_idle status
ends_idle _ = false

-- how many ReadyForQuery told of no block, each counted as it ends: so many transactions ended
abbrev pub idles : List Got → ℕ
idles got = fold (λ count event. more count (ends_idle event)) 0 got

abbrev pub open_after : Option ℕ → Got → Option ℕ
open_after before (GetBegins kind) = Some kind
open_after before (GetEnds status) = None
open_after before Breaks = before

-- the type of the frame that came in part, where there is one
abbrev pub getting : List Got → Option ℕ
getting got = fold open_after None got

abbrev pub status_after : Option ℕ → Got → Option ℕ
status_after before (GetEnds status) = option_or status before
status_after before _ = before

-- the last status that was told, where there is one
abbrev pub last_status : List Got → Option ℕ
last_status got = fold status_after None got

-- no block, a block, a failed block
abbrev pub is_status : ℕ → Bool
is_status status = status == IDLE || status == IN_TRANSACTION || status == FAILED

abbrev pub is_foreign : Option ℕ → Bool
is_foreign None = false
is_foreign (Some status) = not (is_status status)

abbrev pub breaks : Got → Bool
breaks (GetBegins kind) = false
breaks (GetEnds status) = is_foreign status
breaks Breaks = true

-- whether something came that no session sends
abbrev pub has_broken : List Got → Bool
has_broken got = fold (λ before event. before || breaks event) false got

-- ---- the verdict

-- Something came that no session sends, there are more answers than were asked for, or so many that
-- they can't be counted.
abbrev pub is_broken : List Sent → List Got → Bool
is_broken sent got = has_broken got || nat_lt (closings sent) (readies got) || nat_le FULL (closings sent) || nat_le FULL (readies got)

-- a direction isn't at a border of its frames
abbrev pub is_mid_frame : List Sent → List Got → Bool
is_mid_frame sent got = is_sending sent || is_some (getting got)

abbrev pub goes_on : Option ℕ → Bool
goes_on None = false
goes_on (Some kind) = not (is_closing kind)

-- there are fewer answers than were asked for, or the last frame sent asks for none
abbrev pub is_unanswered : List Sent → List Got → Bool
is_unanswered sent got = nat_lt (readies got) (closings sent) || goes_on (last_sent sent)

abbrev pub is_block : Option ℕ → Bool
is_block None = false
is_block (Some status) = status == IN_TRANSACTION || status == FAILED

-- the first that holds
abbrev pub verdict_on : List Sent → List Got → Verdict
verdict_on sent got =
    if is_broken sent got then Broken else
    if is_mid_frame sent got then MidFrame else
    if is_unanswered sent got then Unanswered else
    if is_block (last_status got) then InBlock else
    Settled

-- Nothing came that no session sends; both directions stand at a border; as many ReadyForQuery came as
-- closing messages were sent, and they could be counted; and either no frame was sent, or the last one
-- is a closing message and the last status is that of no block.
pub record IsSettled (sent : List Sent) (got : List Got) : Type 0 where
  pub unbroken : has_broken got ≡ false
  pub sent_border : is_sending sent ≡ false
  pub got_border : getting got ≡ None
  pub answered : readies got ≡ closings sent
  pub counted : closings sent < FULL
  pub at_rest : (last_sent sent ≡ None) ⊎ ((kind : ℕ) × (last_sent sent ≡ Some kind) × (is_closing kind ≡ true) × (last_status got ≡ Some IDLE))
