use Rattle.std.proofs.Common.{◌≡◌, take}
use Rattle.book_model.specs.Book.{latest_of}
use Rattle.numbered_rows.specs.Numbered.{rows_in}
use Rattle.book_rows.specs.Numbered.{number_of}
use Rattle.book_rows.proofs.links.last_in.Given as goal

abbrev pub invariant-slots : goal.invariant-slots
invariant-slots l = l.last ≡ number_of (latest_of l.key (rows_in (take l.place l.slots.items)))
