use Rattle.std.proofs.Common.{◌≡◌, ◌∙◌, ap, map}
use Rattle.std.specs.Arc.{arc_value}
use Rattle.std.proofs.lemmas.List.{map-append}
use Rattle.session_values.specs.Runs.{picked}
use Rattle.session_values.proofs.Mapped.{mapped_step}
use Rattle.session_statements.proofs.rows.picked_rows.Goals as goal

pub loop-row-preserved : goal.loop-row-preserved
loop-row-preserved c =
    let same = c.as_slice.ensures.values ∙ c.deref.ensures in
    let item : arc_value c.in_ok-new.field-0 ≡ picked c.args.places.now (arc_value c.row-item.result) =
    c.in_ok-new.ensures.ok ∙ c.in_ok-picked.ensures ∙ ap (picked c.args.places.now) same in
    rw (c.in_ok-push.ensures.items, map-append, item) (mapped_step arc_value (picked c.args.places.now) c.args.rows.now (map arc_value c.loop-row.list.items) _ c.loop-row.row-index c.row-item.result c.loop-row-test.true c.row-item.is c.loop-row.invariant)
