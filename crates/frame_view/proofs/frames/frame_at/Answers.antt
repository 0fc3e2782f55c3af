use Rattle.std.proofs.Common.{refl, ◌+◌}
use Rattle.std.proofs.lemmas.List.{take-append-drop}
use Rattle.frame_view.proofs.Fronts.{front-whole}
use Rattle.frame_view.proofs.frames.frame_at.Goals as goal

pub returns-clause-tells : goal.returns-clause-tells
returns-clause-tells c =
    let head = c.in-Whole.head in
    let e = front-whole c.args.side c.args.limit head.kind head.length c.args.bytes.now c.in-Whole.ensures.tells c.in-Whole.ensures.lawful.0 c.if-bytes-end.false in
    rw e (record { kind_is = refl; body_is = refl; whole_is = take-append-drop (head.length + 1) c.args.bytes.now })
