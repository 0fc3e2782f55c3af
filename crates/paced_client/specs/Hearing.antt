-- How a client hears what it is given: in whole frames, each but once.
use Rattle.std.specs.Prelude.{◌≡◌, ℕ, ◌+◌, ◌≤◌, List, length, drop}
use Rattle.frame_view.specs.declared.Side.TheVariants.{Server}
use Rattle.frame_view.specs.declared.frames.TheConstants.{MAX_FRAME}
use Rattle.frame_view.specs.Frames.{Cut, frames}
use Rattle.paced_client.specs.declared.pauses.Heard.{Heard}
use Rattle.paced_client.specs.Pauses.{readies}

-- what stands in these bytes from a place on
abbrev pub cut_from : ℕ → List ℕ → Cut
cut_from at given = frames Server MAX_FRAME (drop at given)

-- Whole frames were heard up to a place; the others stand from there on.
pub record IsHearing (h : Heard) (given : List ℕ) : Type 0 where
  pub within : h.end ≤ length given
  pub few : h.readies ≤ h.end
  pub answers : h.readies + readies (drop h.end given) ≡ readies given
  pub rest : (frames Server MAX_FRAME given).rest ≡ (cut_from h.end given).rest

-- All that came whole was heard.
pub record HasHeard (h : Heard) (given : List ℕ) : Type 0 where
  pub within : h.end ≤ length given
  pub few : h.readies ≤ h.end
  pub answers : h.readies ≡ readies given
  pub rest : (frames Server MAX_FRAME given).rest ≡ drop h.end given
