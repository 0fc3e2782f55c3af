use Rattle.link_model.proofs.ByName.{start_packets_split}
use Rattle.link_model.proofs.start_packets_split.Goals as goal

pub returns : goal.returns
returns c = start_packets_split
