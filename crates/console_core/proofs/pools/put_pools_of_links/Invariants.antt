use Rattle.std.proofs.Common.{◌≡◌, drop, fold}
use Rattle.console_core.specs.Tables.{link_keys, with_pool}
use Rattle.console_core.proofs.pools.put_pools_of_links.Given as goal

abbrev pub invariant-loop-link : goal.invariant-loop-link
invariant-loop-link l = fold with_pool l.pools.items (link_keys (drop l.link-index l.links)) ≡ fold with_pool l.fn.pools.items (link_keys l.links)
