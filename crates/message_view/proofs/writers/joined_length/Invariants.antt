use Rattle.std.proofs.Common.{◌≡◌, ◌-◌, ◌^◌, length, take}
use Rattle.std.specs.Prelude.{min}
use Rattle.message_view.specs.Parts.{joined}
use Rattle.message_view.proofs.writers.joined_length.Given as goal

abbrev pub invariant-loop-part : goal.invariant-loop-part
invariant-loop-part l = l.size ≡ min (length (joined (take l.part-index l.parts))) (2 ^ 64 - 1)
