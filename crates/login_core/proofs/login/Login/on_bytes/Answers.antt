use Rattle.std.proofs.Common.{sym, ap, ◌∙◌, arith}
use Rattle.login_core.specs.Logins.{awaiting_of}
use Rattle.login_core.proofs.Taking.{heard, held_fits, left_if, left_unless}
use Rattle.login_core.proofs.login.Login.on_bytes.Goals as goal

pub turn-step-requires : goal.turn-step-requires
turn-step-requires c =
    held_fits c.packets_grow.ensures (awaiting_of c.self.inside.place) _ c.self.inside.held.items c.args.piece.now _ _ c.self.inside.lacking c.min-used.result
    (ap awaiting_of c.replace-place.ensures.value) c.as_slice.ensures.value c.self.invariant.0 c.self.invariant.2 (omega arith) c.hold.ensures.items

pub returns-then-is_more-clause-means : goal.returns-then-is_more-clause-means
returns-then-is_more-clause-means c =
    heard _ _ _ (awaiting_of c.self.inside.place) _ _ c.self.inside.held.items c.args.piece.now _ _ _ _ _ _ c.self.inside.lacking c.min-used.result _ _
    c.self.view_is c.self.invariant.2 (omega arith) c.hold.ensures.items (ap awaiting_of c.replace-place.ensures.value) c.as_slice.ensures.value
    (left_if c.turn-step.result.0 c.is_more.result c.as_slice.result.now c.is_more.ensures c.if-is_more.true ∙ c.as_slice.ensures.value) c.turn-step.ensures.step

pub returns-clause-means : goal.returns-clause-means
returns-clause-means c =
    heard _ _ _ (awaiting_of c.self.inside.place) _ _ c.self.inside.held.items c.args.piece.now _ _ _ _ _ _ c.self.inside.lacking c.min-used.result _ _
    c.self.view_is c.self.invariant.2 (omega arith) c.hold.ensures.items (ap awaiting_of c.replace-place.ensures.value) c.as_slice.ensures.value
    (left_unless c.turn-step.result.0 c.is_more.result c.as_slice.result.now c.is_more.ensures c.if-is_more.false ∙ sym c.clear.ensures.items) c.turn-step.ensures.step
