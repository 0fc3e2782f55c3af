-- What a cursor tells of the bytes that it took.
use Rattle.std.proofs.Common.{◌≡◌, ℕ, List, [], ◌∷◌, ◌++◌, take, refl, sym, ap, subst, ◌∙◌, arith, append_assoc}
use Rattle.frame_view.specs.declared.Side.{Side}
use Rattle.frame_view.specs.Frames.{FrameOf, Cut, frames}
use Rattle.frame_view.specs.Laws.{following}
use Rattle.frame_view.specs.Parts.{PartOf, AtHead, CursorOf, TurnOf, turn}
use Rattle.frame_laws.specs.Joined.{Nothing, Joined, with_part, joined_from, joined, frame_by}
use Rattle.frame_laws.specs.Laws.{Stands, Steps, Tells, since_border}
use Rattle.frame_laws.proofs.Stepping.{steps}

-- ---- parts, joined one after another

pub joined-append : (j : Joined) (xs ys : List PartOf) → joined_from j (xs ++ ys) ≡ joined_from (joined_from j xs) ys
joined-append j [] ys = refl
joined-append j (x ∷ xs) ys = joined-append (with_part j x) xs ys

pub following-both : (fs gs : List FrameOf) (cut : Cut) → following fs (following gs cut) ≡ following (fs ++ gs) cut
following-both fs gs cut = ap (λ (t : List FrameOf). record { frames = t; rest = cut.rest }) (sym (append_assoc fs gs cut.frames))

-- ---- a new cursor, and one call

pub new-tells : (limit : ℕ) (side : Side) → Tells (record { limit = limit; side = side; place = AtHead [] }) [] []
new-tells limit side = record {
  since = [];
  stands = (refl, omega arith, refl);
  frames = λ more. refl;
}

tells-by : (c : CursorOf) (taken piece : List ℕ) (given : List PartOf) (told : Tells c taken given) (t : TurnOf) → Steps c.side c.limit told.since piece (joined given).after t
    → Tells (record c { place = t.place }) (taken ++ take t.used piece) (given ++ t.part ∷ [])
tells-by c taken piece given told t s =
    let used : List ℕ = take t.used piece in
    let since : List ℕ = since_border t.part (told.since ++ used) in
    let j : joined (given ++ t.part ∷ []) ≡ with_part (joined given) t.part = joined-append (record { frames = []; after = Nothing }) given (t.part ∷ []) in
    record {
      since = since;
      stands = subst (λ (x : Joined). Stands c.side c.limit t.place since x.after) (sym j) s.stands;
      frames = λ more.
          ap (frames c.side c.limit) (append_assoc taken used more)
          ∙ told.frames (used ++ more)
          ∙ ap (following (joined given).frames) (s.frames more)
          ∙ following-both (joined given).frames (frame_by t.part (joined given).after) (frames c.side c.limit (since ++ more))
          ∙ ap (λ (x : Joined). following x.frames (frames c.side c.limit (since ++ more))) (sym j);
    }

pub calls-tell : (c : CursorOf) (taken piece : List ℕ) (given : List PartOf) → Tells c taken given
    → Tells (record c { place = (turn c.side c.limit c.place piece).place }) (taken ++ take (turn c.side c.limit c.place piece).used piece) (given ++ (turn c.side c.limit c.place piece).part ∷ [])
calls-tell c taken piece given told =
    tells-by c taken piece given told (turn c.side c.limit c.place piece) (steps c.side c.limit c.place told.since piece (joined given).after told.stands)
