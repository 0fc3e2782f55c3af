use Rattle.memory_start_laws.proofs.Scram.{let_in_by_scram}
use Rattle.memory_start_laws.proofs.scram_servers_let_in.Goals as goal

pub returns : goal.returns
returns c = let_in_by_scram
