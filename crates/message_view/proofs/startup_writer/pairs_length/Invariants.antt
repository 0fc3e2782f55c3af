use Rattle.std.proofs.Common.{◌≡◌, ◌-◌, ◌^◌, length, take}
use Rattle.std.specs.Prelude.{min}
use Rattle.std.specs.List.{flat_map}
use Rattle.message_view.specs.Bodies.{pair}
use Rattle.message_view.specs.Parts.{pairs_of}
use Rattle.message_view.proofs.startup_writer.pairs_length.Given as goal

abbrev pub invariant-loop-name : goal.invariant-loop-name
invariant-loop-name l = l.size ≡ min (length (flat_map pair (pairs_of (take l.name-index l.pairs)))) (2 ^ 64 - 1)
