use Rattle.std.proofs.Common.{◌≡◌, ◌+◌, ◌-◌, ◌≤◌, drop, length}
use Rattle.param_track.specs.KeptReports.{place_of}
use Rattle.param_track.proofs.reported.place_of.Given as goal

abbrev pub invariant-loop-place : goal.invariant-loop-place
invariant-loop-place l = (l.place ≤ length l.reports) × (l.place + place_of l.name (drop l.place l.reports) ≡ place_of l.name l.reports)

abbrev pub decreases-loop-place : goal.decreases-loop-place
decreases-loop-place l = length l.reports - l.place
