use Rattle.std.proofs.Common.{take}
use Rattle.numbered_rows.specs.RowNotes.{AreNotedIfAny}
use Rattle.numbered_rows.proofs.numbered.note_all.Given as goal

abbrev pub invariant-slots : goal.invariant-slots
invariant-slots g l = AreNotedIfAny g.T.Numbered.number l.notes 0 (take l.place l.slots.items)
