-- An index of leases by their clients' key words.
use Rattle.std.specs.Prelude.{◌≡◌, ◌<◌, ◌%◌, ◌-◌, ◌==◌, ℕ, suc, Bool, List, count_by, get_or, length, set}
use Rattle.message_view.specs.declared.views.KeyView.{KeyView}
use Rattle.book_model.specs.Book.{Lease}
use Rattle.book_rows.specs.declared.index.TheConstants.{PLACES}

-- the place of a key word
abbrev pub place_of : KeyView → ℕ
place_of word = word.pid % PLACES

abbrev pub is_at : ℕ → Lease → Bool
is_at place lease = place_of lease.client == place

abbrev pub with_one_more : ℕ → List ℕ → List ℕ
with_one_more place counts = set counts place (suc (get_or counts place 0))

abbrev pub with_one_less : ℕ → List ℕ → List ℕ
with_one_less place counts = set counts place (get_or counts place 0 - 1)

-- the index counts the leases at each place
abbrev pub Tells : List ℕ → List Lease → Type 0
Tells counts leases = (length counts ≡ PLACES) × ((place : ℕ) → place < PLACES → get_or counts place 0 ≡ count_by (is_at place) leases)
