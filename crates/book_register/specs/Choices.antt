-- What the first ticket of a pool is answered, links by their numbers.
use Rattle.std.specs.Prelude.{◌≡◌, ◌<◌, ℕ, suc, Option, Some, None, cond, find, length, nat_le}
use Rattle.book_model.specs.Book.{Book, Link, Ticket, is_link, lendable, link_count, without}
use Rattle.book_model.specs.Outcomes.{Answer, grants, lends, starts, waits}
use Rattle.book_model.specs.declared.events.Reply.{Reply}
use Rattle.book_register.specs.declared.book_state.Choice.{Choice}
use Rattle.book_register.specs.declared.book_state.Choice.TheVariants.{Lend, Start, Evict, Wait}

abbrev pub eviction_of : Option ℕ → Choice
eviction_of None = Wait
eviction_of (Some number) = Evict number

-- where it is fresh
abbrev pub number_if_fresh : ℕ → Option ℕ → Option ℕ
number_if_fresh fresh_from None = None
number_if_fresh fresh_from (Some number) = cond (nat_le fresh_from number) (Some number) None

abbrev pub Chooses : Book → Ticket → Choice → Type 0
Chooses b t (Lend number) = (link : Link) × (find (is_link number) b.idle ≡ Some link) × (grants b t (lendable b.fresh_from t.key b.idle) ≡ lends b t link)
Chooses b t Start = (link_count b < b.limits.max_links) × (grants b t (lendable b.fresh_from t.key b.idle) ≡ starts b t b.idle None)
Chooses b t (Evict number) = (0 < length b.idle) × (grants b t (lendable b.fresh_from t.key b.idle) ≡ starts (record b { evictions = suc b.evictions }) t (without number b.idle) (Some number))
Chooses b t Wait = grants b t (lendable b.fresh_from t.key b.idle) ≡ waits b t

-- what an answer of the definition is for the program: the next lists, and the reply
abbrev pub Gives : Book → Reply → Answer → Type 0
Gives b reply answer = (b ≡ answer.book) × (reply ≡ answer.reply)
