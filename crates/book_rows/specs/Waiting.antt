-- Who has waited longest.
use Rattle.std.specs.Prelude.{◌≡◌, ℕ, List, Option, Some, None, IfSome, true, ◌&&◌, find, not}
use Rattle.std.specs.List.{list_any}
use Rattle.book_model.specs.Book.{Ticket, is_number, is_of, same_pool}
use Rattle.session_values.specs.State.{StartKeyOf}

-- whose ticket it is
abbrev pub client_of : Option Ticket → Option ℕ
client_of None = None
client_of (Some t) = Some t.client

-- for a link of this pool, by tickets in the order of the Asks
abbrev pub longest_waiting : StartKeyOf → List Ticket → Option ℕ
longest_waiting pool tickets = client_of (find (λ t. same_pool t.key pool) tickets)

-- but for this client
abbrev pub longest_waiting_but : ℕ → StartKeyOf → List Ticket → Option ℕ
longest_waiting_but client pool tickets = client_of (find (λ t. same_pool t.key pool && not (is_of client t)) tickets)

-- who has waited longest in a pool is told, whatever the pool
abbrev pub TellsFirsts : List ℕ → List Ticket → Type 0
TellsFirsts told tickets = (pool : StartKeyOf) → IfSome (longest_waiting pool tickets) (λ client. list_any (is_number client) told ≡ true)

-- who is told waits
abbrev pub TellsWaiting : List ℕ → List Ticket → Type 0
TellsWaiting told tickets = (client : ℕ) → list_any (is_number client) told ≡ true → list_any (is_of client) tickets ≡ true
