use Rattle.std.proofs.lemmas.List.{map-set}
use Rattle.std.specs.Arc.{arc_value}
use Rattle.shared_list.proofs.shared.put_at.Goals as goal

pub returns : goal.returns
returns g c = map-set arc_value _ _ _
