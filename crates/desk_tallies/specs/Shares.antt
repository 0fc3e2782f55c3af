-- Shares of the six ledgers, class by class.
use Rattle.std.specs.Prelude.{ℕ, ◌+◌, ◌≤◌, List, sum_by}
pub use Rattle.link_desk.specs.Counts.{AtMost}
use Rattle.link_desk.specs.Passes.{Made, PassOf}
use Rattle.link_desk.specs.declared.calls.Holder.{Holder}
use Rattle.desk_tallies.specs.declared.passes.Totals.{Totals}
use Rattle.desk_tallies.specs.declared.tallies.Blanks.{Blanks}

-- the parts of the ledgers that some shares are, and what was counted on them
pub record SharesOf : Type 0 where
  pub parts : Made
  pub amounts : Made

-- a pass: its number, what was counted on it, and who holds it
pub record PassView : Type 0 where
  pub number : ℕ
  pub counted : PassOf
  pub holder : Holder

abbrev pub by_class : ℕ → ℕ → ℕ → ℕ → ℕ → ℕ → Made
by_class a g b l w o = record { arrived = a; granted = g; given_back = b; lost = l; left = w; others = o }

abbrev pub made_of : Totals → Made
made_of t = by_class t.arrived t.granted t.given_back t.lost t.left t.others

-- which ledgers these are, and into how many parts their shares can be cut
abbrev pub names_of : Blanks → Made
names_of b = by_class b.arrived.name b.granted.name b.given_back.name b.lost.name b.left.name b.others.name

abbrev pub parts_of : Blanks → Made
parts_of b = by_class b.arrived.parts b.granted.parts b.given_back.parts b.lost.parts b.left.parts b.others.parts

-- so many of each class
abbrev pub of_each : ℕ → Made
of_each n = by_class n n n n n n

abbrev pub sum_of : Made → Made → Made
sum_of m n = by_class (m.arrived + n.arrived) (m.granted + n.granted) (m.given_back + n.given_back) (m.lost + n.lost) (m.left + n.left) (m.others + n.others)

-- the decisions made through these passes together
abbrev pub sum_over : List PassView → Made
sum_over passes =
    by_class (sum_by (λ p. p.counted.made.arrived) passes) (sum_by (λ p. p.counted.made.granted) passes) (sum_by (λ p. p.counted.made.given_back) passes) (sum_by (λ p. p.counted.made.lost) passes) (sum_by (λ p. p.counted.made.left) passes) (sum_by (λ p. p.counted.made.others) passes)
