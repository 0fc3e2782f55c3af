use Rattle.std.proofs.Common.{◌≡◌, drop, fold, map}
use Rattle.console_core.specs.Tables.{link_row, with_row}
use Rattle.console_core.proofs.lists.put_links.Given as goal

abbrev pub invariant-loop-link : goal.invariant-loop-link
invariant-loop-link l = fold with_row l.rows.items (map (link_row l.state) (drop l.link-index l.links)) ≡ fold with_row l.fn.rows.items (map (link_row l.state) l.links)
