-- What one call tells, by its place.
use Rattle.std.proofs.Common.{◌≡◌, ℕ, ◌-◌, ◌<◌, Bool, true, false, List, [], ◌∷◌, ◌++◌, length, take, refl, sym, ap, ◌∙◌, arith, take_all}
use Rattle.std.specs.Prelude.{nat_le, if◌then◌else◌, ◌==◌}
use Rattle.std.proofs.lemmas.Bool.{leb-true, leb-false, ne_eqb}
use Rattle.std.proofs.lemmas.List.{append-nil}
use Rattle.frame_view.specs.declared.Side.{Side}
use Rattle.frame_view.specs.Frames.{AreBytes, AHead, head_front, FrameOf, spelling, IsFrame, front, AFrame}
use Rattle.frame_view.specs.Laws.{FrontIsSpelled}
use Rattle.frame_view.specs.Parts.{PlaceOf, AtFault, at_border, Body, AtHead, InBody, turn, of_head, of_less}
use Rattle.frame_laws.specs.Joined.{After, frame_by}
use Rattle.frame_laws.specs.Laws.{GoesOn, Inside, Stands}
use Rattle.frame_laws.proofs.Heads.{heads-size}
use Rattle.frame_laws.proofs.Stepping.{last-front}

pub heads-open : (side : Side) (limit : ℕ) (piece rest : List ℕ) (kind len : ℕ) → head_front side limit piece ≡ AHead kind len rest → turn side limit (AtHead []) piece ≡ of_head [] piece (AHead kind len rest)
heads-open side limit piece rest kind len e = ap (of_head [] piece) e

-- ---- inside a body

less-goes : (rest : ℕ) (piece : List ℕ) → 0 < length piece → length piece < rest → GoesOn rest piece (of_less rest piece)
less-goes rest [] some h = absurd (omega (arith, some))
less-goes rest (b ∷ piece) some h =
    let left = ne_eqb (rest - length (b ∷ piece)) 0 (λ e. omega (arith, e, h)) in
    let all : take (length (b ∷ piece)) (b ∷ piece) ≡ b ∷ piece = take_all (length (b ∷ piece)) (b ∷ piece) (omega arith) in
    record {
      used = omega (arith, h);
      part = ap (λ (t : List ℕ). Body t false) (sym all) ∙ ap (Body (take (length (b ∷ piece)) (b ∷ piece))) (sym left);
      less = refl;
    }

body-goes : (rest : ℕ) (piece : List ℕ) (b : Bool) → nat_le rest (length piece) ≡ b → 0 < length piece
    → GoesOn rest piece (if b then record { used = rest; part = Body (take rest piece) true; place = AtHead [] } else of_less rest piece)
body-goes rest piece true e some = record {
  used = omega (arith, leb-true rest (length piece) e);
  part = refl;
  less = omega arith;
}
body-goes rest piece false e some = less-goes rest piece some (leb-false rest (length piece) e)

pub bodies-go_on : (side : Side) (limit rest : ℕ) (piece : List ℕ) → 0 < length piece → GoesOn rest piece (turn side limit (InBody rest) piece)
bodies-go_on side limit rest piece some = body-goes rest piece (nat_le rest (length piece)) refl some

-- ---- the end of a frame

spelled-by : FrontIsSpelled → (side : Side) (limit : ℕ) (bytes body : List ℕ) (kind : ℕ) (after : After) → AreBytes bytes → front side limit bytes ≡ AFrame kind body []
    → (bytes ≡ spelling (record { kind = kind; body = body })) × IsFrame side limit (record { kind = kind; body = body })
spelled-by law side limit bytes body kind after fits e =
    let s = law side limit bytes kind body [] fits e in
    (s.0 ∙ append-nil (spelling (record { kind = kind; body = body })), s.1)

pub one-frame : FrontIsSpelled → (side : Side) (limit rest : ℕ) (since more : List ℕ) (after : After) → Inside side limit rest since after → length more ≡ rest → AreBytes (since ++ more)
    → (f : FrameOf) × (since ++ more ≡ spelling f) × IsFrame side limit f × (frame_by (Body more true) after ≡ f ∷ [])
one-frame law side limit rest since more after i n fits =
    let all : take rest more ≡ more = take_all rest more (omega (arith, n)) in
    let at : front side limit (since ++ more) ≡ AFrame i.kind (i.body ++ more) [] =
    ap (λ (t : List ℕ). front side limit (since ++ t)) (sym (append-nil more) ∙ ap (λ (t : List ℕ). t ++ []) (sym all))
    ∙ last-front side limit rest since more after i (omega (arith, n)) []
    ∙ ap (λ (t : List ℕ). AFrame i.kind (i.body ++ t) []) all in
    let s = spelled-by law side limit (since ++ more) (i.body ++ more) i.kind after fits at in
    (record { kind = i.kind; body = i.body ++ more }, s.0, s.1, ap (frame_by (Body more true)) i.after_is)

-- ---- borders

pub borders-empty : (side : Side) (limit : ℕ) (place : PlaceOf) (since : List ℕ) (after : After) → Stands side limit place since after → at_border place ≡ (length since == 0)
borders-empty side limit (AtHead begun) since after s = ap (λ (t : List ℕ). length t == 0) (sym s.0)
borders-empty side limit (InBody rest) since after i = sym (ne_eqb (length since) 0 (λ e. omega (arith, e, heads-size side limit i.kind i.length_is i.body since i.head)))
borders-empty side limit (AtFault begun fault) since after s = ap (λ (t : List ℕ). length t == 0) (sym s.0)
