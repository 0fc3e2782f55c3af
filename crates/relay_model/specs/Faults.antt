-- Where a client's bytes are faulty.
use Rattle.std.specs.Prelude.{◌≡◌, ℕ, List, ◌++◌}
use Rattle.std.specs.List.{flat_map, AllByRecursion}
use Rattle.frame_view.specs.declared.FrameError.{FrameError}
use Rattle.frame_view.specs.declared.Side.TheVariants.{Client}
use Rattle.frame_view.specs.Frames.{FrameOf, Faulty, front, spelling}
use Rattle.message_view.specs.declared.refusal.Refusal.{Refusal}
use Rattle.relay_model.specs.Leases.{IsForwarded}
use Rattle.relay_model.specs.Answers.{refusal_by}

-- Behind lawful messages of the client, none of them a Terminate, comes what is none under this limit, whatever follows it; it is
-- refused for that fault.
pub record IsAtFault (limit : ℕ) (bytes : List ℕ) (r : Refusal) : Type 0 where
  pub before : List FrameOf
  pub rest : List ℕ
  pub fault : FrameError
  pub went : AllByRecursion (IsForwarded limit) before
  pub whole : bytes ≡ flat_map spelling before ++ rest
  pub stops : front Client limit rest ≡ Faulty fault
  pub told : r ≡ refusal_by fault
