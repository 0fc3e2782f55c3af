use Rattle.std.proofs.Common.{◌≡◌, ◌+◌, ◌-◌, ◌≤◌, drop, length}
use Rattle.start_keys.specs.Places.{place_in}
use Rattle.start_keys.proofs.pairs.place_of.Given as goal

abbrev pub invariant-loop-place : goal.invariant-loop-place
invariant-loop-place l = (l.place ≤ length l.parameters) × (l.place + place_in l.name (drop l.place l.parameters) ≡ place_in l.name l.parameters)

abbrev pub decreases-loop-place : goal.decreases-loop-place
decreases-loop-place l = length l.parameters - l.place
