-- Links that go back.
use Rattle.std.specs.Prelude.{◌≡◌, ◌⊎◌, ℕ, true, Option, None, Some}
use Rattle.link_desk.specs.declared.answers.Release.{Release}
use Rattle.link_desk.specs.declared.answers.Release.TheVariants.{Reset}
use Rattle.link_desk.specs.declared.calls.Call.{Call}
use Rattle.link_desk.specs.declared.calls.Call.TheVariants as call
use Rattle.link_desk.specs.declared.calls.Holder.{Holder}
use Rattle.link_desk.specs.declared.calls.Stage.{Stage}
use Rattle.link_desk.specs.Homes.{HomeOf, IsAtHome}
use Rattle.link_desk.specs.Passes.{is_before_end, of_lease}
use Rattle.relay_core.specs.declared.relay.Returned.{Returned}
use Rattle.relay_core.specs.declared.relay.Returned.TheVariants.{Unused, Used, Gone}

abbrev pub IsBackHome : {E : Type 0} → HomeOf → Returned E → Type 0
IsBackHome home (Unused link) = IsAtHome home link
IsBackHome home (Used link) = IsAtHome home link
IsBackHome home (Gone lent cause) = Unit {0}

-- the pass has the link of this number and second of birth, whose lease hasn't ended
pub record HasLease (h : Holder) (number started_at : ℕ) : Type 0 where
  pub stage : Stage
  pub lease : h.lease ≡ Some (record { number = number; started_at = started_at; stage = stage })
  pub is_open : is_before_end (Some stage) ≡ true

abbrev pub IsOwnLease : {E : Type 0} → Holder → Returned E → Type 0
IsOwnLease h (Unused link) = HasLease h link.number link.started_at
IsOwnLease h (Used link) = HasLease h link.number link.started_at
IsOwnLease h (Gone lent cause) = HasLease h lent.number lent.started_at

-- its link went by this call, and nothing else of it has changed: no cancel was asked for or sent
pub record IsFreed (call : ℕ → Call) (h k : Holder) : Type 0 where
  pub client : k.client ≡ h.client
  pub lease : k.lease ≡ None
  pub refused : k.refused ≡ h.refused
  pub found : k.found ≡ h.found
  pub struck : k.struck ≡ h.struck
  pub last : k.last ≡ of_lease call h

-- given back, or lost
abbrev pub IsBackOrLost : Holder → Holder → Type 0
IsBackOrLost h k = IsFreed call.GiveBack h k ⊎ IsFreed call.Lost h k

-- given back where no cancel was for it, as the desk said at its lease's end, and else lost
abbrev pub IsBackByRelease : Option Release → Holder → Holder → Type 0
IsBackByRelease None h k = ⊥
IsBackByRelease (Some Reset) h k = IsFreed call.GiveBack h k
IsBackByRelease (Some other) h k = IsFreed call.Lost h k

-- an unused link is given back, a used one where it was reset, each only where no cancel was for it; another one is lost
abbrev pub GoesBack : {E : Type 0} → Returned E → Holder → Holder → Type 0
GoesBack (Unused link) h k = IsBackByRelease k.release h k
GoesBack (Used link) h k = IsBackByRelease k.release h k ⊎ IsFreed call.Lost h k
GoesBack (Gone lent cause) h k = IsFreed call.Lost h k

-- So many turns of the gate had been taken before, and so many are now: the same, unless the desk has said that no cancel is for the link.
abbrev pub WaitsBehindEnd : Option Release → ℕ → ℕ → Type 0
WaitsBehindEnd (Some Reset) before after = Unit {0}
WaitsBehindEnd other before after = after ≡ before

-- A reset takes turns. So a used link is reset only behind its lease's end, where no cancel finds it any more; and another one never is.
abbrev pub IsResetBehindEnd : {E : Type 0} → Returned E → Holder → ℕ → ℕ → Type 0
IsResetBehindEnd (Used link) k before after = WaitsBehindEnd k.release before after
IsResetBehindEnd other k before after = after ≡ before
