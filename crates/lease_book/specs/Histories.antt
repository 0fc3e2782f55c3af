-- The lists with the decisions that led to them.
use Rattle.std.specs.Prelude.{◌≡◌, ◌≤◌, Bool, true, List, [], ◌∷◌, ◌&&◌, length}
use Rattle.book_model.specs.Book.{Book}
use Rattle.book_model.specs.Outcomes.{apply}
use Rattle.book_model.specs.Replay.{Decision, History, Replays, is_decision, most_kept}

-- each of these events is a decision where it stands
abbrev pub are_decisions : Book → List Decision → Bool
are_decisions b [] = true
are_decisions b (d ∷ ds) = is_decision b d.event && are_decisions (apply b d.event).book ds

-- the kept decisions lead from the base to the lists, and are few
pub record LeadsTo (history : History) (lists : Book) : Type 0 where
  pub replays : Replays history.base history.kept lists
  pub decide : are_decisions history.base history.kept ≡ true
  pub few : length history.kept ≤ most_kept
