-- What one call makes of the bytes since the last border.
use Rattle.std.proofs.Common.{◌≡◌, ℕ, ◌+◌, ◌-◌, ◌<◌, ◌≤◌, Bool, true, false, List, [], ◌∷◌, ◌++◌, length, take, drop, refl, sym, ap, subst, ◌∙◌, arith, append_assoc, length-append, length-take-le, take_all}
use Rattle.std.specs.Prelude.{nat_le, nat_lt, if◌then◌else◌}
use Rattle.std.proofs.lemmas.Bool.{leb-true, leb-false, eq-eqb, ne_eqb, le-ltb}
use Rattle.std.proofs.lemmas.List.{append-nil, take_at, drop_at}
use Rattle.std.proofs.Math.Seq.{take-append-add}
use Rattle.frame_view.specs.declared.Side.{Side}
use Rattle.frame_view.specs.Frames.{HeadFront, AHead, LacksHead, FaultyHead, head_front, AFrame, before, front, frames, with_body}
use Rattle.frame_view.specs.Laws.{following}
use Rattle.frame_view.specs.Parts.{Body, End, Bad, PlaceOf, AtHead, InBody, AtFault, turn, of_head, of_less}
use Rattle.frame_view.proofs.Taking.{frames-front}
use Rattle.frame_laws.specs.Joined.{After, Nothing, after_part, frame_by}
use Rattle.frame_laws.specs.Laws.{Inside, Stands, Steps}
use Rattle.frame_laws.proofs.Heads.{heads-grow, heads-five, heads-size, heads-lawful, lacks-short}

-- no frame ends
same : (side : Side) (limit : ℕ) (since used more : List ℕ) → frames side limit (since ++ (used ++ more)) ≡ following [] (frames side limit ((since ++ used) ++ more))
same side limit since used more = ap (frames side limit) (sym (append_assoc since used more))

-- ---- at a head

module _ (side : Side) (limit : ℕ) (begun piece : List ℕ) (few : length begun < 5) where
  begun-five : 5 ≤ length (begun ++ piece) → begun ++ take (5 - length begun) piece ≡ take 5 (begun ++ piece)
  begun-five h =
      let n : length begun + (5 - length begun) ≡ 5 = omega (arith, few) in
      sym (take-append-add begun piece (5 - length begun)) ∙ ap (λ (i : ℕ). take i (begun ++ piece)) n

  pub at_head-steps : (h : HeadFront) → head_front side limit (begun ++ piece) ≡ h → Steps side limit begun piece Nothing (of_head begun piece h)
  at_head-steps (AHead kind len rest) e =
      let five : 5 ≤ length (begun ++ piece) = omega (arith, heads-size side limit kind len rest (begun ++ piece) e) in
      let head = heads-five side limit kind len rest (begun ++ piece) e in
      let low = heads-lawful side limit kind len rest (begun ++ piece) e in
      record {
        stands = record {
          kind = kind;
          length_is = len;
          body = [];
          head = ap (head_front side limit) (begun-five five) ∙ head;
          rest_is = omega (arith, low);
          after_is = refl;
        };
        frames = same side limit begun (take (5 - length begun) piece);
      }
  at_head-steps (LacksHead n) e =
      let all : take (length piece) piece ≡ piece = take_all (length piece) piece (omega arith) in
      record {
        stands = (ap (λ (t : List ℕ). begun ++ t) all, lacks-short side limit n (begun ++ piece) e, refl);
        frames = same side limit begun (take (length piece) piece);
      }
  at_head-steps (FaultyHead fault) e = record {
    stands = (append-nil begun, few, refl);
    frames = same side limit begun [];
  }

-- ---- inside a body

module _ (side : Side) (limit rest : ℕ) (since piece : List ℕ) (after : After) (i : Inside side limit rest since after) where
  -- the body once so many bytes more are there
  longer : (n : ℕ) → n ≤ length piece → length (i.body ++ take n piece) ≡ length i.body + n
  longer n h = length-append i.body (take n piece) ∙ ap (λ (t : ℕ). length i.body + t) (length-take-le n piece h)

  pub last-front : rest ≤ length piece → (more : List ℕ) → front side limit (since ++ (take rest piece ++ more)) ≡ AFrame i.kind (i.body ++ take rest piece) more
  last-front h more =
      let body : List ℕ = i.body ++ take rest piece in
      let size : length body ≡ i.length_is - 4 = omega (arith, longer rest h, i.rest_is) in
      let joined : i.body ++ (take rest piece ++ more) ≡ body ++ more = sym (append_assoc i.body (take rest piece) more) in
      let head : head_front side limit (since ++ (take rest piece ++ more)) ≡ AHead i.kind i.length_is (body ++ more) = heads-grow side limit i.kind i.length_is i.body since (take rest piece ++ more) i.head ∙ ap (AHead i.kind i.length_is) joined in
      let long : nat_lt (length (body ++ more)) (i.length_is - 4) ≡ false = le-ltb _ _ (omega (arith, size, length-append body more)) in
      ap with_body head ∙ rw (long, take_at body more (i.length_is - 4) size, drop_at body more (i.length_is - 4) size) refl

  last-frames : rest ≤ length piece → (more : List ℕ) → frames side limit (since ++ (take rest piece ++ more)) ≡ before (record { kind = i.kind; body = i.body ++ take rest piece }) (frames side limit more)
  last-frames h more =
      let body : List ℕ = i.body ++ take rest piece in
      let past : drop (5 + length body) (since ++ (take rest piece ++ more)) ≡ more =
      ap (λ (t : List ℕ). drop (5 + length body) t) (sym (append_assoc since (take rest piece) more))
      ∙ drop_at (since ++ take rest piece) more (5 + length body) (omega (arith, length-append since (take rest piece), length-take-le rest piece h, heads-size side limit i.kind i.length_is i.body since i.head, longer rest h)) in
      frames-front side limit (since ++ (take rest piece ++ more)) i.kind body more (last-front h more) ∙ ap (λ (t : List ℕ). before (record { kind = i.kind; body = body }) (frames side limit t)) past

  last-after : rest ≤ length piece → after_part (Body (take rest piece) true) after ≡ Nothing
  last-after h =
      let whole = eq-eqb (4 + length (i.body ++ take rest piece)) i.length_is (omega (arith, longer rest h, i.rest_is)) in
      ap (after_part (Body (take rest piece) true)) i.after_is ∙ rw whole refl

  last-steps : rest ≤ length piece → Steps side limit since piece after (record { used = rest; part = Body (take rest piece) true; place = AtHead [] })
  last-steps h = record {
    stands = (refl, omega arith, last-after h);
    frames = λ more. last-frames h more ∙ ap (λ (x : After). following (frame_by (Body (take rest piece) true) x) (frames side limit more)) (sym i.after_is);
  }

no_bytes-steps : (side : Side) (limit rest : ℕ) (since : List ℕ) (after : After) → Inside side limit rest since after → Steps side limit since [] after (record { used = 0; part = End; place = InBody rest })
no_bytes-steps side limit rest since after i = record {
  stands = subst (λ (t : List ℕ). Inside side limit rest t after) (sym (append-nil since)) i;
  frames = same side limit since [];
}

some-steps : (side : Side) (limit rest : ℕ) (since piece : List ℕ) (after : After) → Inside side limit rest since after → length piece < rest → Steps side limit since piece after (record { used = length piece; part = Body piece false; place = InBody (rest - length piece) })
some-steps side limit rest since piece after i h =
    let all : take (length piece) piece ≡ piece = take_all (length piece) piece (omega arith) in
    let size : length (i.body ++ piece) ≡ length i.body + length piece = length-append i.body piece in
    let less = ne_eqb (4 + length (i.body ++ piece)) i.length_is (λ e. omega (arith, e, size, i.rest_is, h)) in
    record {
      stands = record {
        kind = i.kind;
        length_is = i.length_is;
        body = i.body ++ piece;
        head = ap (λ (t : List ℕ). head_front side limit (since ++ t)) all ∙ heads-grow side limit i.kind i.length_is i.body since piece i.head;
        rest_is = omega (arith, size, i.rest_is, h);
        after_is = ap (after_part (Body piece false)) i.after_is ∙ rw less refl;
      };
      frames = same side limit since (take (length piece) piece);
    }

less-steps : (side : Side) (limit rest : ℕ) (since piece : List ℕ) (after : After) → Inside side limit rest since after → length piece < rest → Steps side limit since piece after (of_less rest piece)
less-steps side limit rest since [] after i h = no_bytes-steps side limit rest since after i
less-steps side limit rest since (b ∷ piece) after i h = some-steps side limit rest since (b ∷ piece) after i h

in_body-steps : (side : Side) (limit rest : ℕ) (since piece : List ℕ) (after : After) (b : Bool) → nat_le rest (length piece) ≡ b → Inside side limit rest since after
    → Steps side limit since piece after (if b then record { used = rest; part = Body (take rest piece) true; place = AtHead [] } else of_less rest piece)
in_body-steps side limit rest since piece after true e i = last-steps side limit rest since piece after i (leb-true rest (length piece) e)
in_body-steps side limit rest since piece after false e i = less-steps side limit rest since piece after i (leb-false rest (length piece) e)

-- ---- at any place

pub steps : (side : Side) (limit : ℕ) (place : PlaceOf) (since piece : List ℕ) (after : After) → Stands side limit place since after → Steps side limit since piece after (turn side limit place piece)
steps side limit (AtHead begun) since piece after s =
    subst (λ (x : After). Steps side limit since piece x (turn side limit (AtHead begun) piece)) (sym s.2)
    (subst (λ (t : List ℕ). Steps side limit t piece Nothing (turn side limit (AtHead begun) piece)) (sym s.0)
    (at_head-steps side limit begun piece s.1 (head_front side limit (begun ++ piece)) refl))
steps side limit (InBody rest) since piece after i = in_body-steps side limit rest since piece after (nat_le rest (length piece)) refl i
steps side limit (AtFault begun fault) since piece after s = record {
  stands = (append-nil since ∙ s.0, s.1, ap (after_part (Bad fault)) s.2);
  frames = same side limit since [];
}
