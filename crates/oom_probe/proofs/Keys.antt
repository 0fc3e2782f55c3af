-- The key is one of a link.
use Rattle.std.proofs.Common.{arith}
use Rattle.link_start.specs.Starts.{IsLinkKey}
use Rattle.oom_probe.specs.Keys.{anns_key}

pub anns_is_link_key : IsLinkKey anns_key
anns_is_link_key = (record { lawful = record { row = omega arith; dbname = omega arith; user = omega arith; has_user = omega arith; has_dbname = omega arith; parameters = tt; ordered = tt }; names = tt }, omega arith)
