-- What lies behind the desk's lock.
use Rattle.std.specs.Prelude.{◌≡◌, ◌<◌, ℕ, List, [], ◌∷◌, Option, Some, None}
use Rattle.link_run.specs.Links.{LinkView}
use Rattle.book_model.specs.Kept.{Kept}
use Rattle.lease_book.specs.Links.{BookOf}
use Rattle.lease_book.specs.declared.events.BookEvent.{BookEvent}
use Rattle.lease_book.specs.declared.events.BookEvent.TheVariants as event
use Rattle.desk_tallies.specs.Homes.{HomeOf, IsAtHome}
use Rattle.desk_tallies.specs.Passes.{Made}
use Rattle.desk_tallies.specs.Shares.{SharesOf, of_each, sum_of}
use Rattle.desk_tallies.specs.declared.passes.TheConstants.{ALL_PARTS}
use Rattle.pool_desk.specs.Classes.{class_counts}

-- the lease book, and how many passes were cut off
pub record CoreOf : Type 0 where
  pub book : BookOf
  pub given : ℕ

abbrev pub AreAtHome : HomeOf → List LinkView → Type 0
AreAtHome home [] = Unit {0}
AreAtHome home (link ∷ links) = IsAtHome home link × AreAtHome home links

-- the lists are in order, each counter is the book's count of its class, the idle links are at home, and no part of a ledger was lost:
-- those that no pass has are here, with nothing counted on them
pub record IsJoined (home : HomeOf) (book : BookOf) (tallies : Made) (uncut : SharesOf) (given : ℕ) : Type 0 where
  pub kept : Kept book.lists
  pub counted : class_counts book.lists.counts ≡ tallies
  pub at_home : AreAtHome home book.idle
  pub parts : sum_of uncut.parts (of_each given) ≡ of_each ALL_PARTS
  pub some_left : given < ALL_PARTS
  pub none_made : uncut.amounts ≡ of_each 0

module _ {E : Type 0} where
  -- the link that comes with an event
  abbrev pub brought : BookEvent E → Option LinkView
  brought (event.GiveBack link) = Some link
  brought (event.Plain e) = None
