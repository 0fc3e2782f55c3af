-- What the clock's calls and the console's make of their pass.
use Rattle.std.specs.Prelude.{◌≡◌, ◌⊎◌, ℕ}
use Rattle.desk_tallies.specs.Homes.{HomeOf, IsAtHome}
use Rattle.desk_tallies.specs.Passes.{PassOf, broken, one_other}
use Rattle.book_model.specs.declared.events.Reply.{Reply}
use Rattle.book_model.specs.declared.events.Reply.TheVariants.{Done}
use Rattle.link_desk.specs.declared.answers.Changed.{Changed}
use Rattle.link_desk.specs.declared.answers.Changed.TheVariants as changed
use Rattle.pool_desk.specs.declared.answers.HungUp.{HungUp}
use Rattle.pool_desk.specs.declared.answers.HungUp.TheVariants as hung_up
use Rattle.pool_desk.specs.declared.answers.Ticked.{Ticked}
use Rattle.pool_desk.specs.declared.answers.Ticked.TheVariants as ticked

module _ {E : Type 0} where
  -- a second that was done may have been told before
  abbrev pub AfterTick : Ticked E → PassOf → PassOf → Type 0
  AfterTick ticked.Done p q = (q ≡ p) ⊎ (q ≡ one_other p)
  AfterTick (ticked.Close link) p q = q ≡ one_other p
  AfterTick ticked.Last p q = q ≡ broken p

  abbrev pub IsTickAtHome : HomeOf → Ticked E → Type 0
  IsTickAtHome home (ticked.Close link) = IsAtHome home link
  IsTickAtHome home _ = Unit {0}

module _ {E : Type 0} where
  -- who finds that the link isn't idle any more changes nothing
  abbrev pub AfterHangUp : HungUp E → PassOf → PassOf → Type 0
  AfterHangUp (hung_up.Close link) p q = q ≡ one_other p
  AfterHangUp hung_up.NotIdle p q = q ≡ p
  AfterHangUp hung_up.Last p q = q ≡ broken p

  -- the link that is to be closed is the one whose server hung up
  abbrev pub IsHangUpOf : ℕ → HungUp E → Type 0
  IsHangUpOf n (hung_up.Close link) = link.number ≡ n
  IsHangUpOf n _ = Unit {0}

  abbrev pub IsHangUpAtHome : HomeOf → HungUp E → Type 0
  IsHangUpAtHome home (hung_up.Close link) = IsAtHome home link
  IsHangUpAtHome home _ = Unit {0}

-- what is answered to a change, by the book's reply
abbrev pub changed_by : Reply → Changed
changed_by Done = changed.Done
changed_by _ = changed.Last
