use Rattle.std.proofs.Common.{◌≤◌, ℕ, List, ap, ◌∙◌, sym, subst}
use Rattle.std.specs.Prelude.{count_by, find}
use Rattle.book_model.specs.Book.{Link, find_last, is_link, latest_of}
use Rattle.book_rows.specs.Numbered.{is_of_key, number_of}
use Rattle.book_rows.proofs.Lasts.{latest_listed}
use Rattle.book_rows.proofs.links.Links.last_of_key.Goals as goal

pub last_listed-requires : goal.last_listed-requires
last_listed-requires c = let P : List Link → Type 0 = λ rows. (n : ℕ) → count_by (is_link n) rows ≤ 1 in record { once = subst P (sym c.self.view_is) c.requires.once }

pub returns-in-Some-numbers : goal.returns-in-Some-numbers
returns-in-Some-numbers c =
    let P : List Link → Type 0 = λ rows. (n : ℕ) → count_by (is_link n) rows ≤ 1 in
    let rows = c.self.inside.rows in
    let latest = latest_listed c.self.inside.pools _ rows c.args.key.now c.in-Some.is c.self.invariant (subst P (sym c.self.view_is) c.requires.once) in
    c.last_listed.ensures ∙ (ap (find_last (λ n. is_of_key c.args.key.now (find (is_link n) rows))) (sym c.in-Some-numbers.ensures) ∙ (latest ∙ ap (λ (links : List Link). number_of (latest_of c.args.key.now links)) c.self.view_is))

pub returns-in-None-numbers : goal.returns-in-None-numbers
returns-in-None-numbers c =
    let P : List Link → Type 0 = λ rows. (n : ℕ) → count_by (is_link n) rows ≤ 1 in
    let rows = c.self.inside.rows in
    let latest = latest_listed c.self.inside.pools _ rows c.args.key.now c.in-Some.is c.self.invariant (subst P (sym c.self.view_is) c.requires.once) in
    ap (find_last (λ n. is_of_key c.args.key.now (find (is_link n) rows))) (sym c.in-None-numbers.ensures) ∙ (latest ∙ ap (λ (links : List Link). number_of (latest_of c.args.key.now links)) c.self.view_is)
