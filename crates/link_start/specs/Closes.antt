-- The close of a link.
use Rattle.std.specs.Prelude.{◌≡◌, ◌⊎◌, ◌<◌, ℕ, false, List, [], ◌++◌}
use Rattle.frame_view.specs.Frames.{FrameOf, spelling}
use Rattle.frame_view.specs.declared.client.TheConstants.{TERMINATE}
use Rattle.link_model.specs.Standing.{Standing, Moves}

abbrev pub terminate : FrameOf
terminate = record { kind = TERMINATE; body = [] }

-- A beginning of Terminate was accepted; or the end took nothing at that time, faulted or ended.
pub record IsOffered (old new : Standing) : Type 0 where
  pub put : List ℕ
  pub rest : List ℕ
  pub front : put ++ rest ≡ spelling terminate
  pub moves : Moves old put new []
  pub tried : put ≡ [] → (old.write_waits < new.write_waits) ⊎ ((old.faults < new.faults) ⊎ (new.lives ≡ false))
