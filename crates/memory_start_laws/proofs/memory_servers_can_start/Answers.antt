use Rattle.memory_start_laws.proofs.Servers.{can_start}
use Rattle.memory_start_laws.proofs.memory_servers_can_start.Goals as goal

pub returns : goal.returns
returns c = can_start
