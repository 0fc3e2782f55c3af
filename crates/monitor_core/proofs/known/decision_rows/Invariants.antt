use Rattle.std.proofs.Common.{◌≡◌, map, take}
use Rattle.monitor_core.specs.Known.{decision_row}
use Rattle.monitor_core.proofs.known.decision_rows.Given as goal

abbrev pub invariant-loop-decision : goal.invariant-loop-decision
invariant-loop-decision l = l.rows.items ≡ map decision_row (take l.decision-index l.decisions)
