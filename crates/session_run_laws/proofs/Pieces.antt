-- Pieces of an answer, joined.
use Rattle.std.proofs.Common.{◌≡◌, List, [], ◌∷◌, ◌++◌, ℕ, refl, ap}
use Rattle.std.specs.Prelude.{map}
use Rattle.std.specs.List.{flat_map}
use Rattle.frame_view.specs.Frames.{FrameOf, spelling}
use Rattle.message_view.specs.Refusals.{joined_pieces}

pub pieces_join : (fs : List FrameOf) → joined_pieces (map spelling fs) ≡ flat_map spelling fs
pieces_join [] = refl
pieces_join (f ∷ fs) = ap (λ (l : List ℕ). spelling f ++ l) (pieces_join fs)

pub pieces_of_both : (fs gs : List FrameOf) → map spelling fs ++ map spelling gs ≡ map spelling (fs ++ gs)
pieces_of_both [] gs = refl
pieces_of_both (f ∷ fs) gs = ap (λ (l : List (List ℕ)). spelling f ∷ l) (pieces_of_both fs gs)
