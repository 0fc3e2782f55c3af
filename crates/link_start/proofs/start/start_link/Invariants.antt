use Rattle.std.proofs.Common.{◌≡◌, ◌+◌, ◌≤◌, length}
use Rattle.std.specs.Arc.{arc_value}
use Rattle.link_start.specs.declared.start.TheConstants.{MAX_WELCOME}
use Rattle.link_start.specs.Starts.{IsStartUnderWay, IsWaitingStart, bytes_left, moved_of, waits_of}
use Rattle.link_start.proofs.start.start_link.Given as goal

abbrev pub invariant-loop-left : goal.invariant-loop-left
invariant-loop-left g l = record {
  under_way : IsStartUnderWay (g.E.ServerEnd.standing l.fn.end) l.credential l.start;
  key : l.start.key ≡ arc_value l.fn.key;
  number : l.start.number ≡ l.fn.number;
  started_at : l.start.started_at ≡ l.fn.started_at;
  short : length l.start.received ≤ MAX_WELCOME;
  fewer : l.left ≤ l.fn.turns;
  tried : l.fn.turns + waits_of (g.E.ServerEnd.standing l.fn.end) ≤ waits_of l.start.end + l.left;
  waits : IsWaitingStart l.credential l.start;
  taken : g.G.Gate.turns l.gate + moved_of (g.E.ServerEnd.standing l.fn.end) + l.left ≤ g.G.Gate.turns l.fn.gate + l.fn.turns + moved_of l.start.end;
  paced : waits_of l.start.end + g.G.Gate.turns l.fn.gate ≤ waits_of (g.E.ServerEnd.standing l.fn.end) + g.G.Gate.turns l.gate;
}

-- a turn is fewer, or bytes are
abbrev pub decreases-loop-left : goal.decreases-loop-left
decreases-loop-left g l = l.left + bytes_left l.start
