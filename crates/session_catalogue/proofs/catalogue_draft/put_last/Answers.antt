use Rattle.std.proofs.Common.{rules, ◌≡◌, ◌∙◌, ◌-◌, ap, length, map, slice_set}
use Rattle.std.proofs.lemmas.List.{map-set}
use Rattle.std.specs.Arc.{arc_value}
use Rattle.session_catalogue.proofs.catalogue_draft.put_last.Goals as goal

pub returns : goal.returns
returns c =
    let count : c.len-place.result ≡ length c.args.tables.now.items = search rules in
    ap (λ n. map arc_value (slice_set c.args.tables.now.items (n - 1) c.args.table)) count ∙ map-set arc_value _ _ _
