use Rattle.std.proofs.Common.{◌≡◌, ◌≤◌, ◌++◌, length, drop}
use Rattle.message_view.specs.Bodies.{startup_body}
use Rattle.message_view.specs.Messages.{startup_message}
use Rattle.message_view.specs.Parts.{pairs_of}
use Rattle.message_view.proofs.startup_writer.put_startup_message.Given as goal

abbrev pub invariant-loop-name : goal.invariant-loop-name
invariant-loop-name l = record {
  written : l.out.items ++ startup_body (pairs_of (drop l.name-index l.pairs)) ≡ l.fn.out.items ++ startup_message (pairs_of l.pairs);
  room : length (startup_body (pairs_of (drop l.name-index l.pairs))) ≤ l.out.spare;
}
