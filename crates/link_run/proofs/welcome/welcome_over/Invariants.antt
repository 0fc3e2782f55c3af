use Rattle.std.proofs.Common.{◌≡◌, ◌++◌, drop, map}
use Rattle.std.specs.List.{flat_map}
use Rattle.frame_view.specs.Frames.{spelling}
use Rattle.link_run.specs.Links.{start_report}
use Rattle.link_run.proofs.welcome.welcome_over.Given as goal

abbrev pub invariant-loop-report : goal.invariant-loop-report
invariant-loop-report g l = record { written : l.out.items ++ flat_map spelling (map start_report (drop l.report-index l.link.reports)) ≡ flat_map spelling (map start_report l.link.reports) }
