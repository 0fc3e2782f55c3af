-- Whom a decision may help.
use Rattle.std.specs.Prelude.{◌≡◌, ◌%◌, ℕ, Bool, List, Option, Some, None, IfSome, cond, slice_get, true}
use Rattle.session_values.specs.State.{StartKeyOf}
use Rattle.book_model.specs.Book.{Book}
use Rattle.book_model.specs.Outcomes.{Event}
use Rattle.book_model.specs.Outcomes.Change.{Shutdown, Reconnect}
use Rattle.book_model.specs.Outcomes.Event.{Arrive, Ask, Take, GiveBack, Lost, StartFailed, Leave, Tick, Makes, Keyed, Cancel, EndLease, HungUp}
use Rattle.book_register.specs.Waking.{is_full, waiting_behind, waiting_for}
use Rattle.book_rows.specs.Waiting.{longest_waiting}
use Rattle.pool_desk.specs.declared.bells.TheConstants.{BELLS}
use Rattle.pool_desk.specs.declared.helping.Helps.{Helps}
use Rattle.pool_desk.specs.declared.helping.Helps.TheVariants as helps

abbrev pub one_or_nobody : Option ℕ → Helps
one_or_nobody None = helps.Nobody
one_or_nobody (Some client) = helps.One client

-- this client waits no more
abbrev pub helped_behind : Book → ℕ → Helps
helped_behind b client = one_or_nobody (waiting_behind b client)

-- this link isn't lent any more
abbrev pub helped_by_link : Book → ℕ → Helps
helped_by_link b link = cond (is_full b) helps.FirstOfEach (one_or_nobody (waiting_for b link))

abbrev pub helped_by : Book → Event → Helps
helped_by b (Arrive beyond) = helps.Nobody
helped_by b (Ask client key) = helps.Nobody
helped_by b (Take client) = helped_behind b client
helped_by b (Leave client) = helped_behind b client
helped_by b (GiveBack link) = helped_by_link b link
helped_by b (Lost link) = helped_by_link b link
helped_by b (StartFailed link) = helped_by_link b link
helped_by b (Keyed link client server) = helps.Nobody
helped_by b (Cancel client) = helps.Nobody
helped_by b (EndLease link) = helps.Nobody
-- beside an idle link only those wait whose pools have no room without it either
helped_by b (HungUp link) = helps.Nobody
-- who waits had no idle link that it might be lent, and nothing else is changed for it
helped_by b (Makes Reconnect) = helps.Nobody
-- all who wait are refused
helped_by b (Makes Shutdown) = helps.All
-- where the first may go on, or has waited too long, the next is helped by what it is answered
helped_by b (Makes change) = helps.FirstOfEach
helped_by b (Tick now) = helps.FirstOfEach

-- this client's bell is among the chosen
abbrev pub IsChosen : List Bool → ℕ → Type 0
IsChosen chosen client = slice_get chosen (client % BELLS) ≡ Some true

-- the bell of who has waited longest in a pool is among them, whatever the pool
abbrev pub ChoosesFirsts : Book → List Bool → Type 0
ChoosesFirsts b chosen = (pool : StartKeyOf) → IfSome (longest_waiting pool b.tickets) (IsChosen chosen)
