-- The book's decisions by class.
use Rattle.std.specs.Prelude.{◌+◌, ◌≤◌}
use Rattle.book_model.specs.declared.counts.Counts.{Counts}
use Rattle.link_desk.specs.Passes.{Made}

abbrev pub class_counts : Counts → Made
class_counts c = record {
  arrived = c.arrived;
  granted = c.granted;
  given_back = c.given_back;
  lost = c.lost + c.starts_failed;
  left = c.left;
  others = c.arrivals_refused + c.asked + c.asks_refused + c.tickets_lost + c.ticked + c.limited + c.paused + c.resumed + c.shut_down + c.keyed + c.cancelled + c.leases_ended + c.hung_up + c.reconnected;
}

-- class by class no more
pub record AtMost (m n : Made) : Type 0 where
  pub arrived : m.arrived ≤ n.arrived
  pub granted : m.granted ≤ n.granted
  pub given_back : m.given_back ≤ n.given_back
  pub lost : m.lost ≤ n.lost
  pub left : m.left ≤ n.left
  pub others : m.others ≤ n.others
