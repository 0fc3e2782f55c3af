use Rattle.memory_ends.proofs.Serving.{starts_so}
use Rattle.memory_ends.proofs.dialogue.Dialogue.take_one.Goals as goal

pub returns-in_ok-next-in-Before-clause-taken : goal.returns-in_ok-next-in-Before-clause-taken
returns-in_ok-next-in-Before-clause-taken c = starts_so c.args.self.now.host c.args.self.now.progress c.moved_on.new.progress c.in_ok-next-in-Before.next c.moved_on.result _ _ _ _ c.args.marks.now.items c.in-Before.is c.in_ok-next-in-Before.ensures c.moved_on.ensures
