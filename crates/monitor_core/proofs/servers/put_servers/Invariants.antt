use Rattle.std.proofs.Common.{◌≡◌, ◌++◌, map, take}
use Rattle.monitor_core.specs.Servers.{server_row}
use Rattle.monitor_core.proofs.servers.put_servers.Given as goal

abbrev pub invariant-loop-link : goal.invariant-loop-link
invariant-loop-link l = l.rows.items ≡ l.fn.rows.items ++ map (server_row l.view l.seen l.state) (take l.link-index l.links)
