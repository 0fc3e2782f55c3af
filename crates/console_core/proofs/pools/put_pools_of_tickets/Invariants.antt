use Rattle.std.proofs.Common.{◌≡◌, drop, fold}
use Rattle.console_core.specs.Tables.{ticket_keys, with_pool}
use Rattle.console_core.proofs.pools.put_pools_of_tickets.Given as goal

abbrev pub invariant-loop-ticket : goal.invariant-loop-ticket
invariant-loop-ticket l = fold with_pool l.pools.items (ticket_keys (drop l.ticket-index l.tickets)) ≡ fold with_pool l.fn.pools.items (ticket_keys l.tickets)
