use Rattle.std.proofs.Common.{◌≡◌, drop, fold, map}
use Rattle.console_core.specs.Tables.{client_row, with_row}
use Rattle.console_core.proofs.lists.put_clients.Given as goal

abbrev pub invariant-loop-client : goal.invariant-loop-client
invariant-loop-client l = fold with_row l.rows.items (map client_row (drop l.client-index l.clients)) ≡ fold with_row l.fn.rows.items (map client_row l.clients)
