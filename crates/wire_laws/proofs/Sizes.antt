-- There is room where nothing goes on.
use Rattle.std.proofs.Common.{◌≡◌, ◌⊎◌, inl, inr, ⊎_elim, ℕ, zero, suc, ◌+◌, ◌<◌, ◌≤◌, ◌==◌, Bool, true, false, List, [], ◌∷◌, length, refl, ap, arith}
use Rattle.std.specs.Prelude.{◌||◌, ◌&&◌, nat_le}
use Rattle.std.proofs.lemmas.Bool.{eqb-true, false≢true, leb-true}
use Rattle.frame_view.specs.declared.Side.{Side}
use Rattle.frame_view.specs.declared.Side.TheVariants.{Client, Server}
use Rattle.frame_view.specs.declared.server.TheConstants.{PARAMETER_STATUS, READY_FOR_QUERY}
use Rattle.frame_view.specs.Frames.{Front, AFrame, Lacks, Faulty, front}
use Rattle.relay_flow.specs.Parts.{goes_whole, is_stuck}
use Rattle.relay_model.specs.Steps.{HasRoom}
use Rattle.wire_laws.specs.Sizes.{IdleHasRoom}

either : (a b c d : Bool) → (a && b || c && d) ≡ true → (b ≡ true) ⊎ (d ≡ true)
either true true c d e = inl e
either true false true d e = inr e
either true false false d e = absurd (false≢true e)
either false b true d e = inr e
either false b false d e = absurd (false≢true e)

-- what goes on whole is short
whole_is_short : (side : Side) (kind len : ℕ) → goes_whole side kind len ≡ true → len ≤ 4100
whole_is_short Client kind len e = absurd (false≢true e)
whole_is_short Server kind len e = ⊎_elim
    (λ ready. let n : len ≡ 5 = eqb-true len 5 ready in omega (arith, n))
    (λ status. leb-true len 4100 status)
    (either (kind == READY_FOR_QUERY) (len == 5) (kind == PARAMETER_STATUS) (nat_le len 4100) e)

stuck_is_short : (side : Side) (x : Front) (part : List ℕ) → is_stuck side x part ≡ true → length part < 8192
stuck_is_short side (AFrame kind body rest) part e = absurd (false≢true e)
stuck_is_short side (Faulty fault) part e = absurd (false≢true e)
stuck_is_short side (Lacks n) [] e = omega arith
stuck_is_short side (Lacks n) (k ∷ []) e = omega arith
stuck_is_short side (Lacks n) (k ∷ a ∷ []) e = omega arith
stuck_is_short side (Lacks n) (k ∷ a ∷ b ∷ []) e = omega arith
stuck_is_short side (Lacks n) (k ∷ a ∷ b ∷ c ∷ []) e = omega arith
stuck_is_short side (Lacks n) (k ∷ a ∷ b ∷ c ∷ d ∷ rest) e = let s = whole_is_short side k (4 + (length rest + n)) e in omega (arith, s)

pub idle_has_room : IdleHasRoom
idle_has_room v none n = by v.rest refl
  where
    by : (r : ℕ) → v.rest ≡ r → HasRoom v
    by zero e = let s = stuck_is_short v.side (front v.side v.limit v.part) v.part (n.border e) in let h = ap length none in omega (arith, s, h)
    by (suc r) e = let p = ap length (n.inside (omega (arith, e))) in let h = ap length none in omega (arith, p, h)
