-- What a paced client keeps of its input and of what it was given.
use Rattle.std.specs.Prelude.{◌≡◌, ℕ, ◌<◌, ◌≤◌, List}
use Rattle.frame_view.specs.Frames.{AreBytes}
use Rattle.paced_client.specs.declared.pauses.Heard.{Heard}
use Rattle.paced_client.specs.Pauses.{pauses, allowed_to_hand_out}
use Rattle.paced_client.specs.Hearing.{HasHeard}

pub record IsPaced (input : List ℕ) (at : ℕ) (kept given : List ℕ) (heard : Heard) (cut : ℕ) : Type 0 where
  pub cuts : 0 < cut
  pub fits : AreBytes input
  pub places : kept ≡ pauses input
  pub hears : HasHeard heard given
  pub allowed : at ≤ allowed_to_hand_out input given
