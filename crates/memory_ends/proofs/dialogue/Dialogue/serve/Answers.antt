use Rattle.std.proofs.Common.{◌∙◌}
use Rattle.memory_ends.proofs.Serving.{serves_one}
use Rattle.memory_ends.proofs.dialogue.Dialogue.serve.Goals as goal

pub packets-preserved : goal.packets-preserved
packets-preserved c = (c.take_one.ensures.kept ∙ c.packets.invariant.0, serves_one c.in_ok-take_one.field-0 c.args.self.now c.packets.self c.take_one.new.self _ _ c.if-branch.true c.packets.invariant.0 c.take_one.ensures.kept c.packets.invariant.1 c.in_ok-take_one.ensures.taken)
