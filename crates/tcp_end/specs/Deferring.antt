-- AuthenticationOk of a client's end, which is held until other bytes are given to it.
use Rattle.std.specs.Prelude.{ℕ, ◌-◌, ◌==◌, Bool, false, nat_lt, if◌then◌else◌, List, drop}
use Rattle.server_end.specs.declared.Moved.{Moved}
use Rattle.server_end.specs.declared.Moved.TheVariants.{Count, NotNow, Ended, Fault}
use Rattle.message_view.specs.declared.writers.TheConstants.{AUTHENTICATION_OK}

pub record DeferredOf : Type 0 where
  -- it was given
  pub given : Bool
  -- so many of its last bytes are still to go
  pub unsent : ℕ

abbrev pub new_deferred : DeferredOf
new_deferred = record { given = false; unsent = 0 }

abbrev pub is_empty : DeferredOf → Bool
is_empty d = d.unsent == 0

-- the bytes that are still to go
abbrev pub held : DeferredOf → List ℕ
held d = drop (9 - d.unsent) AUTHENTICATION_OK

-- ---- a write of so many held bytes, and of others behind them

-- what it came to for the others
abbrev pub moved_behind : ℕ → Moved → Moved
moved_behind unsent (Count n) = if nat_lt unsent n then Count (n - unsent) else NotNow
moved_behind unsent NotNow = NotNow
moved_behind unsent Ended = Ended
moved_behind unsent Fault = Fault

-- how many are still to go behind it
abbrev pub left_of : ℕ → Moved → ℕ
left_of unsent (Count n) = unsent - n
left_of unsent NotNow = unsent
left_of unsent Ended = unsent
left_of unsent Fault = unsent
