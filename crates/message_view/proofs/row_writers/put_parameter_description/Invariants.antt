use Rattle.std.proofs.Common.{◌≡◌, ◌+◌, ◌≤◌, ◌++◌, length, drop}
use Rattle.std.specs.List.{flat_map}
use Rattle.frame_view.specs.Frames.{spelling}
use Rattle.message_view.specs.Bodies.{int32, numbers32}
use Rattle.message_view.specs.Messages.{parameter_description}
use Rattle.message_view.proofs.row_writers.put_parameter_description.Given as goal

abbrev pub invariant-loop-oid : goal.invariant-loop-oid
invariant-loop-oid l = record {
  written : l.out.items ++ flat_map int32 (drop l.oid-index l.oids) ≡ l.fn.out.items ++ spelling (parameter_description l.oids);
  room : length (flat_map int32 (drop l.oid-index l.oids)) ≤ l.out.spare;
  left : l.fn.out.spare + length (flat_map int32 (drop l.oid-index l.oids)) ≤ l.out.spare + (5 + length (numbers32 l.oids));
}
