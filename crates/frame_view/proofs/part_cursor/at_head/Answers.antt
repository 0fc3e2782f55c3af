use Rattle.std.proofs.Common.{◌-◌, ◌++◌, List, ℕ, length, ap, sym, ◌∙◌, arith, length-append}
use Rattle.frame_view.specs.Parts.{TurnOf, Head, End, InBody, AtHead, begun_of, of_head}
use Rattle.frame_view.specs.Frames.{head_front}
use Rattle.frame_view.proofs.Heads.{whole-by_five, faulty-by_five, lacks-by_five, whole-long}
use Rattle.frame_view.proofs.part_cursor.at_head.Goals as goal

pub returns-in-Whole-clause-turn : goal.returns-in-Whole-clause-turn
returns-in-Whole-clause-turn c =
    let head = c.in-Whole.field-0 in
    let bytes : List ℕ = begun_of c.args.begun ++ c.args.piece.now in
    let e = whole-by_five c.args.side c.args.limit head.kind head.length _ bytes (ap (head_front c.args.side c.args.limit) (sym (c.as_slice.ensures.bytes ∙ c.with-head.ensures.bytes)) ∙ c.in-Whole.ensures.tells) in
    let turned : List ℕ → TurnOf = λ begun. record { used = 5 - length begun; part = Head head.kind head.length; place = InBody (head.length - 4) } in
    ap turned c.as_slice-in-Whole.ensures.bytes ∙ sym (ap (of_head (begun_of c.args.begun) c.args.piece.now) e)

pub returns-in-Whole-clause-within : goal.returns-in-Whole-clause-within
returns-in-Whole-clause-within c =
    let bytes : List ℕ = begun_of c.args.begun ++ c.args.piece.now in
    let e = whole-by_five c.args.side c.args.limit _ _ _ bytes (ap (head_front c.args.side c.args.limit) (sym (c.as_slice.ensures.bytes ∙ c.with-head.ensures.bytes)) ∙ c.in-Whole.ensures.tells) in
    omega (arith, whole-long c.args.side c.args.limit _ _ _ bytes e, length-append (begun_of c.args.begun) c.args.piece.now, ap length c.as_slice-in-Whole.ensures.bytes)

pub returns-in-Need-clause-turn : goal.returns-in-Need-clause-turn
returns-in-Need-clause-turn c =
    let bytes : List ℕ = begun_of c.args.begun ++ c.args.piece.now in
    let e = lacks-by_five c.args.side c.args.limit _ bytes (ap (head_front c.args.side c.args.limit) (sym (c.as_slice.ensures.bytes ∙ c.with-head.ensures.bytes)) ∙ c.in-Need.ensures.tells.0) in
    let turned : List ℕ → TurnOf = λ begun. record { used = length c.args.piece.now; part = End; place = AtHead begun } in
    ap turned (c.with-head.ensures.bytes ∙ e.1) ∙ sym (ap (of_head (begun_of c.args.begun) c.args.piece.now) e.0)

pub returns-in-Bad-clause-turn : goal.returns-in-Bad-clause-turn
returns-in-Bad-clause-turn c =
    let bytes : List ℕ = begun_of c.args.begun ++ c.args.piece.now in
    let e = faulty-by_five c.args.side c.args.limit _ bytes (ap (head_front c.args.side c.args.limit) (sym (c.as_slice.ensures.bytes ∙ c.with-head.ensures.bytes)) ∙ c.in-Bad.ensures.tells) in
    sym (ap (of_head (begun_of c.args.begun) c.args.piece.now) e)
