use Rattle.memory_start_laws.proofs.Scram.{can_start}
use Rattle.memory_start_laws.proofs.scram_servers_can_start.Goals as goal

pub returns : goal.returns
returns c = can_start
