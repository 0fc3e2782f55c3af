-- The book that a register begins with.
use Rattle.std.specs.Prelude.{ℕ}
use Rattle.book_model.specs.Book.{Book, Limits, empty_book, no_counts}

-- an empty book after so many decisions, which are told as Ticks
abbrev pub counted_book : Limits → ℕ → Book
counted_book limits n = record (empty_book limits) { decisions = n; counts = record no_counts { ticked = n } }
