use Rattle.std.proofs.Common.{sym, ◌∙◌, ap, bytes_eq}
use Rattle.std.specs.Prelude.{map}
use Rattle.indexmap.proofs.CallerLemmas.{insert_entry-new}
use Rattle.user_file.specs.Users.{user_named}
use Rattle.text_lines.proofs.Tables.{lookup-named, rows-added, named-added}
use Rattle.user_file.proofs.user_table.UserTable.add.Goals as goal

pub invariant_of-self-2 : goal.invariant_of-self-2
invariant_of-self-2 c =
    let m = c.self.inside.by_name in
    let own = c.in_ok-key.ensures.items ∙ c.as_bytes.ensures in
    let found = lookup-named (λ k. k.items) (λ r. r.name) c.in_ok-key.key.items m.entries c.self.invariant in
    let absent = found ∙ ap (user_named c.in_ok-key.key.items) c.self.view_is ∙ ap (λ n. user_named n c.args.self.now) own ∙ c.requires in
    let entries = c.in_ok-insert.ensures.entries ∙ insert_entry-new (λ x y. bytes_eq x.items y.items) m c.in_ok-key.key c.args.row absent in
    ap (map (λ e. e.0.items)) entries ∙ named-added (λ k. k.items) (λ r. r.name) m.entries c.in_ok-key.key c.args.row c.self.invariant own
    ∙ ap (map (λ e. e.1.name)) (sym entries)

pub returns : goal.returns
returns c =
    let m = c.self.inside.by_name in
    let own = c.in_ok-key.ensures.items ∙ c.as_bytes.ensures in
    let found = lookup-named (λ k. k.items) (λ r. r.name) c.in_ok-key.key.items m.entries c.self.invariant in
    let absent = found ∙ ap (user_named c.in_ok-key.key.items) c.self.view_is ∙ ap (λ n. user_named n c.args.self.now) own ∙ c.requires in
    let entries = c.in_ok-insert.ensures.entries ∙ insert_entry-new (λ x y. bytes_eq x.items y.items) m c.in_ok-key.key c.args.row absent in
    ap (map (λ e. e.1)) entries ∙ rows-added (λ k. k.items) (λ r. r.name) m.entries c.in_ok-key.key c.args.row c.args.self.now c.self.view_is
