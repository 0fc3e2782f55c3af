use Rattle.std.proofs.Common.{◌≡◌, map, take}
use Rattle.monitor_core.specs.Servers.{row_of}
use Rattle.monitor_core.proofs.servers.client_rows.Given as goal

abbrev pub invariant-loop-client : goal.invariant-loop-client
invariant-loop-client l = l.rows.items ≡ map (row_of l.seen) (take l.client-index l.clients)
