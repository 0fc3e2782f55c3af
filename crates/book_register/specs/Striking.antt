-- What a cancel of a lease is answered, by the host of its link's start key.
use Rattle.std.specs.Prelude.{ℕ, List, Option, Some, None}
use Rattle.book_model.specs.Book.{Lease}
use Rattle.book_model.specs.declared.events.Reply.{Reply}
use Rattle.book_model.specs.declared.events.Reply.TheVariants.{Strike, Nobody}

abbrev pub strike_of : Lease → Option (List ℕ) → Reply
strike_of lease None = Nobody
strike_of lease (Some host) = Strike lease.link lease.server
