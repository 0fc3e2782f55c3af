-- An end that fails from one of its calls on.
use Rattle.std.specs.Prelude.{◌≡◌, ◌⊎◌, ℕ, ◌+◌, ◌-◌, ◌^◌, ◌<◌, true, false, Option, Some, None}
use Rattle.link_model.specs.Standing.{Standing, ClientFacts}
use Rattle.server_end.specs.declared.Moved.{Moved}
use Rattle.server_end.specs.declared.Moved.TheVariants.{Count, NotNow, Ended, Fault}
use Rattle.memory_ends.specs.declared.failing_end.Calls.{Calls}
use Rattle.memory_ends.specs.declared.failing_end.Calls.TheVariants.{Good, Failed}

-- Once it fails it is as dead as an end can be, and counts its faults on from those of the end inside.
abbrev pub failing_server : Calls → Standing → Standing
failing_server (Good n) at = at
failing_server (Failed faults) at = record at { lives = false; faults = faults }

abbrev pub failing_client : Calls → ClientFacts → ClientFacts
failing_client (Good n) at = at
failing_client (Failed faults) at = record at { ended = true; faults = faults }

-- one more fault; at the last count it has ended
abbrev pub Counts : ℕ → Calls → Moved → Type 0
Counts faults new Fault = (faults < 2 ^ 64 - 1) × (new ≡ Failed (faults + 1))
Counts faults new Ended = (faults ≡ 2 ^ 64 - 1) × (new ≡ Failed faults)
Counts faults new NotNow = ⊥
Counts faults new (Count n) = ⊥

-- None: the call goes to the end inside, and one good call fewer is left. Some: it fails.
abbrev pub Fails : Calls → Calls → ℕ → Option Moved → Type 0
Fails (Good n) new inner None = (0 < n) × (new ≡ Good (n - 1))
Fails (Good n) new inner (Some m) = (n ≡ 0) × Counts inner new m
Fails (Failed faults) new inner None = ⊥
Fails (Failed faults) new inner (Some m) = Counts faults new m

-- A call: a good one goes to the end inside, and one fewer is left. Any other fails, and the end inside isn't called.
abbrev pub IsCall : {E : Type 0} → Calls → Calls → E → E → ℕ → Moved → Type 0
IsCall (Good n) new before after inner m = ((0 < n) × (new ≡ Good (n - 1))) ⊎ ((n ≡ 0) × (after ≡ before) × Counts inner new m)
IsCall (Failed faults) new before after inner m = (after ≡ before) × Counts faults new m
