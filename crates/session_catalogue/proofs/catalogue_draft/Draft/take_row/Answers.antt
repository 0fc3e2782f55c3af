use Rattle.std.proofs.Common.{rules, ◌≡◌, ◌-◌, length, map, slice_set, sym, ap, ◌∙◌, None, Some}
use Rattle.std.proofs.lemmas.List.{length-map}
use Rattle.std.specs.Arc.{arc_value}
use Rattle.session_catalogue.specs.Catalogues.{last_of, row_fault, value_of}
use Rattle.session_catalogue.specs.Drafts.{with_row, with_last_row}
use Rattle.session_catalogue.specs.FieldsLeft.{fields_left}
use Rattle.session_catalogue.proofs.Rowings.{last_row, rowed}
use Rattle.session_catalogue.proofs.catalogue_draft.Draft.take_row.Goals as goal

pub returns : goal.returns
returns c =
    let vs = map value_of (fields_left c.args.values) in
    let was = map arc_value c.self.inside.tables.items in
    let same : was ≡ c.args.self.now.tables = ap (λ p. p.tables) c.self.view_is in
    let kept : arc_value c.in_ok-table-2.table ≡ with_row c.in_ok-table.table.now vs = search rules in
    let last : last_of was ≡ Some c.in_ok-table.table.now = search rules in
    let count : length c.self.inside.tables.items ≡ length was = sym (length-map _ _) in
    let row : map arc_value c.put_last.new.tables.items ≡ with_last_row was vs =
    c.put_last.ensures
    ∙ ap (λ k. slice_set was (k - 1) (arc_value c.in_ok-table-2.table)) count
    ∙ ap (λ t. slice_set was (length was - 1) t) kept
    ∙ last_row was c.in_ok-table.table.now vs last in
    let fits : row_fault (last_of was) vs ≡ None = search rules in (
      ap (λ ts. row_fault (last_of ts) vs) (sym same) ∙ fits,
      ap (λ ts. rowed (record { untouched = c.self.inside.untouched; version = c.self.inside.version; databases = map arc_value c.self.inside.databases.items; tables = was }) ts) row
          ∙ ap (λ p. rowed p (with_last_row p.tables vs)) c.self.view_is,
    )
