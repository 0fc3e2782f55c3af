use Rattle.std.proofs.Common.{◌∙◌, ap, rules, length}
use Rattle.std.specs.Prelude.{is_some}
use Rattle.std.proofs.lemmas.Fn.{filter_same}
use Rattle.numbered_rows.specs.Numbered.{rows_in}
use Rattle.numbered_rows.proofs.Numbering.{all_full, closed_up}
use Rattle.numbered_rows.proofs.numbered.close_up.Goals as goal

pub returns-clause-rows : goal.returns-clause-rows
returns-clause-rows g c = ap rows_in (filter_same _ is_some _ (λ x b f' h. search rules) _ _ c.retain.ensures.filtered) ∙ closed_up c.args.slots.now.items

pub returns-clause-all : goal.returns-clause-all
returns-clause-all g c = ap length (filter_same _ is_some _ (λ x b f' h. search rules) _ _ c.retain.ensures.filtered) ∙ all_full c.args.slots.now.items
