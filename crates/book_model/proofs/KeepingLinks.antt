-- Links stay in order, lent or idle, whichever is started, lent, given back or closed.
use Rattle.std.proofs.Common.{◌≡◌, ℕ, suc, ◌+◌, ◌≤◌, ◌<◌, Bool, true, false, not, List, [], ◌∷◌, ◌++◌, length, count_by, refl, sym, ◌∙◌, subst, arith, le_of_eq, ◌==◌, eqb-true}
use Rattle.std.proofs.lemmas.List.{length_push}
use Rattle.book_model.specs.Book.{Link, is_link, without}
use Rattle.book_model.specs.declared.limits.TheConstants.{MAX_LINKS}
use Rattle.book_model.specs.Kept.{KeptLinks}
use Rattle.book_model.proofs.KeepingLists.{fewer_left, left_out, length_left, one_more}

pub idle_goes : (k : ℕ) (lent idle : List Link) (next : ℕ) → KeptLinks lent idle next → KeptLinks lent (without k idle) next
idle_goes k lent idle next h = record {
  fit = omega (arith, length_left (is_link k) idle, h.fit);
  once = λ n. omega (arith, fewer_left (is_link n) (λ l. not (is_link k l)) idle, h.once n);
  fresh = λ n l. omega (arith, fewer_left (is_link n) (λ l. not (is_link k l)) idle, h.fresh n l);
}

pub lent_goes : (k : ℕ) (lent idle : List Link) (next : ℕ) → KeptLinks lent idle next → KeptLinks (without k lent) idle next
lent_goes k lent idle next h = record {
  fit = omega (arith, length_left (is_link k) lent, h.fit);
  once = λ n. omega (arith, fewer_left (is_link n) (λ l. not (is_link k l)) lent, h.once n);
  fresh = λ n l. omega (arith, fewer_left (is_link n) (λ l. not (is_link k l)) lent, h.fresh n l);
}

pub link_starts : (lent idle : List Link) (next : ℕ) (link : Link) → link.number ≡ next → length lent + length idle < MAX_LINKS → KeptLinks lent idle next → KeptLinks (lent ++ link ∷ []) idle (suc next)
link_starts lent idle next link e room h = record {
  fit = omega (arith, length_push lent link, room);
  once = λ n. once n (link.number == n) refl;
  fresh = λ n l. fresh n l (link.number == n) refl;
}
  where
    once : (n : ℕ) (b : Bool) → (link.number == n) ≡ b → count_by (is_link n) (lent ++ link ∷ []) + count_by (is_link n) idle ≤ 1
    once n true f = omega (arith, one_more (is_link n) lent link true f, h.fresh n (le_of_eq (sym e ∙ eqb-true link.number n f)))
    once n false f = omega (arith, one_more (is_link n) lent link false f, h.once n)

    fresh : (n : ℕ) → suc next ≤ n → (b : Bool) → (link.number == n) ≡ b → count_by (is_link n) (lent ++ link ∷ []) + count_by (is_link n) idle ≡ 0
    fresh n l true f = omega (arith, l, e, eqb-true link.number n f)
    fresh n l false f = omega (arith, one_more (is_link n) lent link false f, h.fresh n (omega (arith, l)))

-- a link that stands on one side goes to the other
crosses : (from to : List Link) (next : ℕ) (link : Link) → 1 ≤ count_by (is_link link.number) from → ((n : ℕ) → count_by (is_link n) from + count_by (is_link n) to ≤ 1) → ((n : ℕ) → next ≤ n → count_by (is_link n) from + count_by (is_link n) to ≡ 0) → length from + length to ≤ MAX_LINKS → (length (without link.number from) + length (to ++ link ∷ []) ≤ MAX_LINKS) × ((n : ℕ) → count_by (is_link n) (without link.number from) + count_by (is_link n) (to ++ link ∷ []) ≤ 1) × ((n : ℕ) → next ≤ n → count_by (is_link n) (without link.number from) + count_by (is_link n) (to ++ link ∷ []) ≡ 0)
crosses from to next link there once fresh fit = (omega (arith, length_left (is_link link.number) from, length_push to link, there, fit), λ n. omega (arith, same n (link.number == n) refl, once n), λ n l. omega (arith, same n (link.number == n) refl, fresh n l))
  where
    same : (n : ℕ) (b : Bool) → (link.number == n) ≡ b → count_by (is_link n) (without link.number from) + count_by (is_link n) (to ++ link ∷ []) ≤ count_by (is_link n) from + count_by (is_link n) to
    same n true f = omega (arith, left_out (λ (l : Link). l.number) link.number n from true f, one_more (is_link n) to link true f, subst (λ (m : ℕ). 1 ≤ count_by (is_link m) from) (eqb-true link.number n f) there)
    same n false f = omega (arith, left_out (λ (l : Link). l.number) link.number n from false f, one_more (is_link n) to link false f)

pub link_is_lent : (lent idle : List Link) (next : ℕ) (link : Link) → 1 ≤ count_by (is_link link.number) idle → KeptLinks lent idle next → KeptLinks (lent ++ link ∷ []) (without link.number idle) next
link_is_lent lent idle next link there h =
    let c = crosses idle lent next link there (λ n. omega (arith, h.once n)) (λ n l. omega (arith, h.fresh n l)) (omega (arith, h.fit)) in
    record { fit = omega (arith, c.0); once = λ n. omega (arith, c.1 n); fresh = λ n l. omega (arith, c.2 n l) }

-- given back, it keeps its number
pub link_is_idle : (k : ℕ) (lent idle : List Link) (next : ℕ) (link : Link) → link.number ≡ k → 1 ≤ count_by (is_link k) lent → KeptLinks lent idle next → KeptLinks (without k lent) (idle ++ link ∷ []) next
link_is_idle k lent idle next link e there h =
    let c = crosses lent idle next link (subst (λ (m : ℕ). 1 ≤ count_by (is_link m) lent) (sym e) there) h.once h.fresh h.fit in
    subst (λ (m : ℕ). KeptLinks (without m lent) (idle ++ link ∷ []) next) e (record { fit = c.0; once = c.1; fresh = c.2 })

-- one goes, and leaves a place
pub place_left : (k : ℕ) (links : List Link) → 1 ≤ count_by (is_link k) links → length (without k links) < length links
place_left k links there = omega (arith, length_left (is_link k) links, there)
