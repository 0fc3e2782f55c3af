-- What a worker does to its pass. Links that came back and clients that left are counted unless a call of the desk was answered by the
-- last decision or as strange.
use Rattle.std.specs.Prelude.{◌≡◌, ◌+◌, ◌≤◌, false}
use Rattle.link_desk.specs.Passes.{Made, PassOf}

-- no client came or left
pub record IsSameStay (before after : Made) : Type 0 where
  pub arrived : after.arrived ≡ before.arrived
  pub left : after.left ≡ before.left

-- one link went back or was lost; its lease may have been keyed, and ended
pub record Ends (p q : PassOf) : Type 0 where
  pub stay : IsSameStay p.made q.made
  pub granted : q.made.granted ≡ p.made.granted
  pub others : p.made.others ≤ q.made.others
  pub ended : q.is_broken ≡ false → (p.is_broken ≡ false) × (q.made.given_back + q.made.lost ≡ p.made.given_back + p.made.lost + 1)

-- as many links were granted as went back or were lost
pub record Evens (p q : PassOf) : Type 0 where
  pub stay : IsSameStay p.made q.made
  pub leases : q.is_broken ≡ false → (p.is_broken ≡ false) × (q.made.granted + (p.made.given_back + p.made.lost) ≡ p.made.granted + (q.made.given_back + q.made.lost))

-- and as many clients arrived as left
pub record SettlesAll (before after : Made) : Type 0 where
  pub leases : after.granted + (before.given_back + before.lost) ≡ before.granted + (after.given_back + after.lost)
  pub clients : after.arrived + before.left ≡ before.arrived + after.left

abbrev pub Settles : PassOf → PassOf → Type 0
Settles p q = q.is_broken ≡ false → SettlesAll p.made q.made
