-- The laws of a link's traffic. Each is the whole contract of a function of src/laws.rt.
use Rattle.std.specs.Prelude.{◌≡◌, ℕ, ◌-◌, ◌^◌, true, List, [], ◌∷◌, ◌++◌, Option, None}
use Rattle.disposal.specs.declared.TheConstants.{FULL}
use Rattle.disposal.specs.declared.Verdict.TheVariants.{Settled}
use Rattle.disposal.specs.Traffics.{Sent, SendBegins, SendEnds, Got, GetBegins, GetEnds, Breaks, IsSettled, verdict_on}
use Rattle.disposal.specs.Tallies.{Tally, Tells, send_begun, send_ended, got_begun, may_end, got_ended, got_broken, verdict_of}

-- A tally that tells of two lists tells, after each call, of the lists with what the call adds.
pub record CallsTell : Type 0 where
  pub send_begins : (kind : ℕ) (t : Tally) (sent : List Sent) (got : List Got) → Tells t sent got → Tells (send_begun kind t) (sent ++ SendBegins kind ∷ []) got
  pub send_ends : (t : Tally) (sent : List Sent) (got : List Got) → Tells t sent got → Tells (send_ended t) (sent ++ SendEnds ∷ []) got
  pub get_begins : (kind : ℕ) (t : Tally) (sent : List Sent) (got : List Got) → t.getting ≡ None → Tells t sent got → Tells (got_begun kind t) sent (got ++ GetBegins kind ∷ [])
  pub get_ends : (status : Option ℕ) (t : Tally) (sent : List Sent) (got : List Got) → may_end status t ≡ true → Tells t sent got → Tells (got_ended status t) sent (got ++ GetEnds status ∷ [])
  pub breaks : (t : Tally) (sent : List Sent) (got : List Got) → Tells t sent got → Tells (got_broken t) sent (got ++ Breaks ∷ [])

-- The verdict by the counts is the verdict on each two lists that they tell of.
abbrev pub VerdictsAreOfLists : Type 0
VerdictsAreOfLists = (t : Tally) (sent : List Sent) (got : List Got) → Tells t sent got → verdict_of t ≡ verdict_on sent got

-- It is Settled exactly where the lists are.
pub record SettledExactly : Type 0 where
  pub sound : (t : Tally) (sent : List Sent) (got : List Got) → Tells t sent got → verdict_of t ≡ Settled → IsSettled sent got
  pub complete : (t : Tally) (sent : List Sent) (got : List Got) → Tells t sent got → IsSettled sent got → verdict_of t ≡ Settled

-- The count at which counting stops is the greatest of eight bytes.
abbrev pub FullIsTheGreatest : Type 0
FullIsTheGreatest = FULL ≡ 2 ^ 64 - 1
