-- An index of leases tells how many there are at each place.
use Rattle.std.proofs.Common.{get_or, ◌≡◌, ℕ, ◌+◌, ◌<◌, ◌%◌, ◌==◌, ◌&&◌, Bool, true, false, List, [], ◌∷◌, ◌++◌, length, None, Some, cond, refl, sym, ap, ◌∙◌, subst, arith, eq-eqb, eqb-true}
use Rattle.std.specs.Prelude.{count_by, find, nat_lt, remove, replicate}
use Rattle.std.proofs.lemmas.Bool.{false≢true}
use Rattle.std.proofs.lemmas.Bool.Decides.{nat_tests}
use Rattle.std.proofs.lemmas.List.{get_or-replicate, get_or-set_same, get_or-set_other, length-replicate, length-set}
use Rattle.std.proofs.lemmas.List.Sums.{count_by-le-length, sum_by_push, sum_by-remove}
use Rattle.message_view.specs.declared.views.KeyView.{KeyView}
use Rattle.book_model.specs.Book.{Lease, is_of_client}
use Rattle.book_model.specs.declared.limits.TheConstants.{MAX_LINKS}
use Rattle.book_rows.specs.Index.{Tells, is_at, place_of, with_one_less, with_one_more}
use Rattle.book_rows.specs.declared.index.TheConstants.{PLACES}
use Rattle.numbered_rows.proofs.Places.{count-cons}

within : (word : KeyView) → place_of word < PLACES
within word = omega arith

pub tells_nobody : Tells (replicate PLACES 0) []
tells_nobody = (length-replicate {A = ℕ} PLACES 0, λ place l. get_or-replicate PLACES place 0 0 l)

-- ---- nobody is there

not_at : (word : KeyView) (lease : Lease) → is_at (place_of word) lease ≡ false → is_of_client word lease ≡ false
not_at word lease e = go (lease.client.pid == word.pid) refl
  where
    go : (b : Bool) → (lease.client.pid == word.pid) ≡ b → (b && (lease.client.secret == word.secret)) ≡ false
    go true f = absurd (false≢true (sym e ∙ eq-eqb (place_of lease.client) (place_of word) (ap (λ (pid : ℕ). pid % PLACES) (eqb-true lease.client.pid word.pid f))))
    go false f = refl

none_found : (word : KeyView) (leases : List Lease) → count_by (is_at (place_of word)) leases ≡ 0 → find (is_of_client word) leases ≡ None
none_found word [] e = refl
none_found word (lease ∷ leases) e = go (is_at (place_of word) lease) refl (count-cons (is_at (place_of word)) lease leases) (none_found word leases)
  where
    go : (b : Bool) → is_at (place_of word) lease ≡ b → count_by (is_at (place_of word)) (lease ∷ leases) ≡ cond b 1 0 + count_by (is_at (place_of word)) leases → (count_by (is_at (place_of word)) leases ≡ 0 → find (is_of_client word) leases ≡ None) → cond (is_of_client word lease) (Some lease) (find (is_of_client word) leases) ≡ None
    go true f c ih = absurd (omega (arith, e, c))
    go false f c ih = ap (λ (b : Bool). cond b (Some lease) (find (is_of_client word) leases)) (not_at word lease f) ∙ ih (omega (arith, e, c))

pub nobody : (word : KeyView) (counts : List ℕ) (leases : List Lease) → Tells counts leases → nat_lt 0 (get_or counts (place_of word) 0) ≡ false → None ≡ find (is_of_client word) leases
nobody word counts leases t e = sym (none_found word leases (omega (arith, none, t.1 (place_of word) (within word))))
  where
    none : get_or counts (place_of word) 0 ≡ 0
    none = grind (arith, nat_tests)

-- ---- one more

pub fits : (word : KeyView) (counts : List ℕ) (leases : List Lease) → Tells counts leases → length leases < MAX_LINKS → get_or counts (place_of word) 0 < 65535
fits word counts leases t l = omega (arith, l, t.1 (place_of word) (within word), count_by-le-length (is_at (place_of word)) leases)

pub one_more_told : (lease : Lease) (counts : List ℕ) (leases : List Lease) → Tells counts leases → Tells (with_one_more (place_of lease.client) counts) (leases ++ lease ∷ [])
one_more_told lease counts leases t = (length-set counts at _ ∙ t.0, λ place l. go place l (at == place) refl)
  where
    at : ℕ
    at = place_of lease.client

    more : (place : ℕ) (b : Bool) → (at == place) ≡ b → count_by (is_at place) (leases ++ lease ∷ []) ≡ count_by (is_at place) leases + cond b 1 0
    more place b e = sum_by_push (λ l. cond (is_at place l) 1 0) leases lease ∙ ap (λ (v : Bool). count_by (is_at place) leases + cond v 1 0) e

    go : (place : ℕ) → place < PLACES → (b : Bool) → (at == place) ≡ b → get_or (with_one_more at counts) place 0 ≡ count_by (is_at place) (leases ++ lease ∷ [])
    go place l true e = subst (λ (p : ℕ). get_or (with_one_more at counts) p 0 ≡ count_by (is_at p) (leases ++ lease ∷ [])) (eqb-true at place e) (get_or-set_same counts at _ 0 (omega (arith, t.0, within lease.client)) ∙ omega (arith, t.1 at (within lease.client), more at true (eq-eqb at at refl)))
    go place l false e = get_or-set_other counts at place _ 0 (λ p. false≢true (sym e ∙ eq-eqb at place (sym p))) ∙ omega (arith, t.1 place l, more place false e)

-- ---- one less

pub is_told : (counts : List ℕ) (leases : List Lease) (i : ℕ) (lease : Lease) → Tells counts leases → i < length leases → lease ≡ get_or leases i lease → 0 < get_or counts (place_of lease.client) 0
is_told counts leases i lease t l e =
    omega (arith, t.1 (place_of lease.client) (within lease.client), sum_by-remove (λ x. cond (is_at (place_of lease.client) x) 1 0) leases i lease l, one)
  where
    one : cond {A = ℕ} (is_at (place_of lease.client) (get_or leases i lease)) 1 0 ≡ 1
    one = ap (λ (x : Lease). cond {A = ℕ} (is_at (place_of lease.client) x) 1 0) (sym e) ∙ ap (λ (b : Bool). cond {A = ℕ} b 1 0) (eq-eqb (place_of lease.client) (place_of lease.client) refl)

pub one_less_told : (counts : List ℕ) (leases : List Lease) (i : ℕ) (lease : Lease) → Tells counts leases → i < length leases → lease ≡ get_or leases i lease → Tells (with_one_less (place_of lease.client) counts) (remove leases i)
one_less_told counts leases i lease t l e = (length-set counts at _ ∙ t.0, λ place k. go place k (at == place) refl)
  where
    at : ℕ
    at = place_of lease.client

    less : (place : ℕ) (b : Bool) → (at == place) ≡ b → count_by (is_at place) (remove leases i) + cond b 1 0 ≡ count_by (is_at place) leases
    less place b f = ap (λ (n : ℕ). count_by (is_at place) (remove leases i) + n) (sym (ap (λ (x : Lease). cond (is_at place x) 1 0) (sym e) ∙ ap (λ (v : Bool). cond v 1 0) f)) ∙ sum_by-remove (λ x. cond (is_at place x) 1 0) leases i lease l

    go : (place : ℕ) → place < PLACES → (b : Bool) → (at == place) ≡ b → get_or (with_one_less at counts) place 0 ≡ count_by (is_at place) (remove leases i)
    go place k true f = subst (λ (p : ℕ). get_or (with_one_less at counts) p 0 ≡ count_by (is_at p) (remove leases i)) (eqb-true at place f) (get_or-set_same counts at _ 0 (omega (arith, t.0, within lease.client)) ∙ omega (arith, t.1 at (within lease.client), less at true (eq-eqb at at refl)))
    go place k false f = get_or-set_other counts at place _ 0 (λ p. false≢true (sym f ∙ eq-eqb at place (sym p))) ∙ omega (arith, t.1 place k, less place false f)
