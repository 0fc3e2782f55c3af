-- Leases stay in order, and marks and ends, whichever comes or goes.
use Rattle.std.proofs.Common.{◌≡◌, ℕ, ◌≤◌, Bool, true, false, not, List, [], ◌∷◌, ◌++◌, length, filter, count_by, refl, subst, arith, le_trans, ◌==◌, eqb-true}
use Rattle.book_model.specs.Book.{Lease, Link, is_link, is_number, is_of_link, with_number, without, without_lease, without_number}
use Rattle.book_model.specs.Kept.{KeptLeases}
use Rattle.book_model.proofs.KeepingLists.{as_long, fewer_left, left_out, one_more}

pub link_is_leased : (lent : List Link) (link : Link) (keyed : List Lease) (marked ended : List ℕ) → KeptLeases lent keyed marked ended → KeptLeases (lent ++ link ∷ []) keyed marked ended
link_is_leased lent link keyed marked ended h = record { keyed = λ n. le_trans (h.keyed n) (more n); marked = λ n. le_trans (h.marked n) (more n); ended = λ n. le_trans (h.ended n) (more n) }
  where
    more : (n : ℕ) → count_by (is_link n) lent ≤ count_by (is_link n) (lent ++ link ∷ [])
    more n = omega (arith, one_more (is_link n) lent link (link.number == n) refl)

pub lease_goes : (k : ℕ) (lent : List Link) (keyed : List Lease) (marked ended : List ℕ) → KeptLeases lent keyed marked ended → KeptLeases (without k lent) (without_lease k keyed) (without_number k marked) (without_number k ended)
lease_goes k lent keyed marked ended h = record {
  keyed = λ n. goes n (λ (l : Lease). l.link) keyed (h.keyed n) (k == n) refl;
  marked = λ n. goes n (λ (m : ℕ). m) marked (h.marked n) (k == n) refl;
  ended = λ n. goes n (λ (m : ℕ). m) ended (h.ended n) (k == n) refl;
}
  where
    goes : {A : Type 0} (n : ℕ) (number : A → ℕ) (xs : List A) → count_by (λ x. number x == n) xs ≤ count_by (is_link n) lent → (b : Bool) → (k == n) ≡ b → count_by (λ x. number x == n) (filter (λ x. not (number x == k)) xs) ≤ count_by (is_link n) (without k lent)
    goes n number xs l true f = omega (arith, left_out number k n xs true f)
    goes n number xs l false f = omega (arith, left_out number k n xs false f, left_out (λ (l : Link). l.number) k n lent false f, l)

-- a number that a lent link has stands once
noted : (k : ℕ) (lent : List Link) (numbers : List ℕ) → 1 ≤ count_by (is_link k) lent → ((n : ℕ) → count_by (is_number n) numbers ≤ count_by (is_link n) lent) → (n : ℕ) → count_by (is_number n) (with_number k numbers) ≤ count_by (is_link n) lent
noted k lent numbers there h n = go (k == n) refl
  where
    go : (b : Bool) → (k == n) ≡ b → count_by (is_number n) (with_number k numbers) ≤ count_by (is_link n) lent
    go true f = omega (arith, one_more (is_number n) (without_number k numbers) k true f, left_out (λ (m : ℕ). m) k n numbers true f, subst (λ (m : ℕ). 1 ≤ count_by (is_link m) lent) (eqb-true k n f) there)
    go false f = omega (arith, one_more (is_number n) (without_number k numbers) k false f, left_out (λ (m : ℕ). m) k n numbers false f, h n)

pub lease_is_keyed : (lent : List Link) (lease : Lease) (keyed : List Lease) (marked ended : List ℕ) → 1 ≤ count_by (is_link lease.link) lent → count_by (is_of_link lease.link) keyed ≡ 0 → KeptLeases lent keyed marked ended → KeptLeases lent (keyed ++ lease ∷ []) marked ended
lease_is_keyed lent lease keyed marked ended there free h = record { keyed = λ n. go n (lease.link == n) refl; marked = h.marked; ended = h.ended }
  where
    at : (n : ℕ) → lease.link ≡ n → (1 ≤ count_by (is_link n) lent) × (count_by (is_of_link n) keyed ≡ 0)
    at n e = subst (λ (m : ℕ). (1 ≤ count_by (is_link m) lent) × (count_by (is_of_link m) keyed ≡ 0)) e (there, free)

    go : (n : ℕ) (b : Bool) → (lease.link == n) ≡ b → count_by (is_of_link n) (keyed ++ lease ∷ []) ≤ count_by (is_link n) lent
    go n true f = let k = at n (eqb-true lease.link n f) in omega (arith, one_more (is_of_link n) keyed lease true f, k.0, k.1)
    go n false f = omega (arith, one_more (is_of_link n) keyed lease false f, h.keyed n)

pub link_is_marked : (k : ℕ) (lent : List Link) (keyed : List Lease) (marked ended : List ℕ) → 1 ≤ count_by (is_link k) lent → KeptLeases lent keyed marked ended → KeptLeases lent keyed (with_number k marked) ended
link_is_marked k lent keyed marked ended there h = record { keyed = h.keyed; marked = noted k lent marked there h.marked; ended = h.ended }

pub lease_ends : (k : ℕ) (lent : List Link) (keyed : List Lease) (marked ended : List ℕ) → 1 ≤ count_by (is_link k) lent → KeptLeases lent keyed marked ended → KeptLeases lent (without_lease k keyed) marked (with_number k ended)
lease_ends k lent keyed marked ended there h = record {
  keyed = λ n. le_trans (fewer_left (is_of_link n) _ keyed) (h.keyed n);
  marked = h.marked;
  ended = noted k lent ended there h.ended;
}

-- ---- how many there are

pub leases_fit : (lent : List Link) (keyed : List Lease) (marked ended : List ℕ) → KeptLeases lent keyed marked ended → length keyed ≤ length lent
leases_fit lent keyed marked ended h = as_long (λ (l : Lease). l.link) (λ (l : Link). l.number) keyed lent h.keyed

pub marks_fit : (lent : List Link) (keyed : List Lease) (marked ended : List ℕ) → KeptLeases lent keyed marked ended → length marked ≤ length lent
marks_fit lent keyed marked ended h = as_long (λ (m : ℕ). m) (λ (l : Link). l.number) marked lent h.marked

pub ends_fit : (lent : List Link) (keyed : List Lease) (marked ended : List ℕ) → KeptLeases lent keyed marked ended → length ended ≤ length lent
ends_fit lent keyed marked ended h = as_long (λ (m : ℕ). m) (λ (l : Link). l.number) ended lent h.ended
