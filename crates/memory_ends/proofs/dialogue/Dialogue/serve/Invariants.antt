use Rattle.std.proofs.Common.{◌≡◌, length}
use Rattle.memory_ends.specs.Dialogues.{Serves}
use Rattle.memory_ends.proofs.dialogue.Dialogue.serve.Given as goal

abbrev pub invariant-packets : goal.invariant-packets
invariant-packets l = (l.self.host ≡ l.initial.self.host) × Serves l.initial.self l.marks.items l.self

abbrev pub decreases-packets : goal.decreases-packets
decreases-packets l = length l.self.inbox.items
