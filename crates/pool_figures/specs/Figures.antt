-- What went through links, and how long it took.
use Rattle.std.specs.Prelude.{ℕ, ◌+◌, ◌-◌, ◌/◌, ◌^◌, ◌==◌, List, [], ◌∷◌, min, if◌then◌else◌}
use Rattle.pool_figures.specs.declared.figures.Figures.{Figures}

abbrev pub none : Figures
none = record { leases = 0; transactions = 0; queries = 0; received = 0; sent = 0; transaction_time = 0; query_time = 0; wait_time = 0 }

-- a count stops at the greatest
abbrev pub sum : ℕ → ℕ → ℕ
sum m n = min (m + n) (2 ^ 64 - 1)

abbrev pub plus : Figures → Figures → Figures
plus f g = record {
  leases = sum f.leases g.leases;
  transactions = sum f.transactions g.transactions;
  queries = sum f.queries g.queries;
  received = sum f.received g.received;
  sent = sum f.sent g.sent;
  transaction_time = sum f.transaction_time g.transaction_time;
  query_time = sum f.query_time g.query_time;
  wait_time = sum f.wait_time g.wait_time;
}

-- what came since an earlier moment
abbrev pub since : Figures → Figures → Figures
since f before = record {
  leases = f.leases - before.leases;
  transactions = f.transactions - before.transactions;
  queries = f.queries - before.queries;
  received = f.received - before.received;
  sent = f.sent - before.sent;
  transaction_time = f.transaction_time - before.transaction_time;
  query_time = f.query_time - before.query_time;
  wait_time = f.wait_time - before.wait_time;
}

abbrev pub ratio : ℕ → ℕ → ℕ
ratio n d = if d == 0 then 0 else n / d

-- as PgBouncer orders them, without the leases
abbrev pub totals : Figures → List ℕ
totals f = f.transactions ∷ f.queries ∷ f.received ∷ f.sent ∷ f.transaction_time ∷ f.query_time ∷ f.wait_time ∷ []

-- a second, where they came in so many; of the times for each transaction, query and lease
abbrev pub averages : ℕ → Figures → List ℕ
averages seconds f =
    ratio f.transactions seconds ∷ ratio f.queries seconds ∷ ratio f.received seconds ∷ ratio f.sent seconds
    ∷ ratio f.transaction_time f.transactions ∷ ratio f.query_time f.queries ∷ ratio f.wait_time f.leases ∷ []
