use Rattle.std.proofs.Common.{◌∙◌, map}
use Rattle.std.specs.Arc.{arc_value}
use Rattle.shared_list.proofs.Lists.{all_step}
use Rattle.shared_list.proofs.append_list.AppendList.to_vec.Goals as goal

pub loop-index-preserved : goal.loop-index-preserved
loop-index-preserved g c =
    let written = c.in_ok-push_items.ensures in
    rw (written, c.as_slice.ensures) (all_step _ c.loop-index.index _ (map arc_value c.loop-index.items.items) c.at.ensures ∙ c.loop-index.invariant)
