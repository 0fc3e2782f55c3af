use Rattle.std.proofs.Common.{◌≡◌, ◌-◌, None, drop, length}
use Rattle.std.specs.Prelude.{find}
use Rattle.book_model.specs.Book.{find_last, is_link}
use Rattle.book_rows.specs.Numbered.{is_of_key}
use Rattle.book_rows.proofs.links.last_listed.Given as goal

-- none of those behind is of the key
abbrev pub invariant-back : goal.invariant-back
invariant-back l = find_last (λ n. is_of_key l.key (find (is_link n) l.rows)) (drop (length l.numbers.items - l.behind) l.numbers.items) ≡ None
