use Rattle.std.proofs.Common.{◌≡◌, true, false, sym, ◌∙◌}
use Rattle.std.specs.Prelude.{find, nat_lt}
use Rattle.book_model.specs.Book.{Link, in_pool, link_count, pool_count, pool_size}
use Rattle.book_rows.specs.Numbered.{number_of}
use Rattle.book_register.proofs.Choices.{book_full, pool_full, start_chosen}
use Rattle.book_register.proofs.book_state.BookState.room_for.Goals as goal

pub returns-then-not-has_pool_room : goal.returns-then-not-has_pool_room
returns-then-not-has_pool_room c =
    let b = c.args.self.now in
    let t = c.args.ticket.now in
    let full : nat_lt (pool_count b t.key) (pool_size b.limits t.key) ≡ false = cc in
    let link : c.first_of_pool.result ≡ number_of (find (in_pool t.key) b.idle) = cc in
    rw c.eviction.ensures (pool_full b t c.first_of_pool.result c.requires full link)

pub returns-then-has_room : goal.returns-then-has_room
returns-then-has_room c =
    let b = c.args.self.now in
    let t = c.args.ticket.now in
    let room : nat_lt (pool_count b t.key) (pool_size b.limits t.key) ≡ true = cc in
    start_chosen b t c.requires room (sym c.has_room.ensures ∙ c.if-has_room.true)

pub returns : goal.returns
returns c =
    let b = c.args.self.now in
    let t = c.args.ticket.now in
    let room : nat_lt (pool_count b t.key) (pool_size b.limits t.key) ≡ true = cc in
    let full : nat_lt (link_count b) b.limits.max_links ≡ false = sym c.has_room.ensures ∙ c.if-has_room.false in
    let link : c.first.result ≡ number_of (find (λ (l : Link). true) b.idle) = cc in
    rw c.eviction-2.ensures (book_full b t c.first.result c.requires room full link)
