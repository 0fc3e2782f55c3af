-- Lists that are spelled are read again, and what is read is spelled so.
use Rattle.std.proofs.Common.{◌≡◌, ◌<◌, ℕ, zero, suc, List, [], ◌∷◌, ◌++◌, length, Option, Some, None, Ok, refl, ap, sym, ◌∙◌, append_assoc, subst}
use Rattle.std.specs.List.{flat_map, AllByRecursion}
use Rattle.frame_view.specs.Frames.{AreBytes}
use Rattle.message_view.specs.Bodies.{int16}
use Rattle.message_view.specs.Spelled.{Fits16, FitsList}
use Rattle.message_view.specs.Reading.{Part, ◌>>=◌, int16_at, list_at, counted_at, and_more, list_until, ended_at}
use Rattle.message_view.proofs.Pieces.{same_rest, same_part, bind-inv, carry}
use Rattle.message_laws.proofs.Trips.{bytes_behind, int16_reads, int16_spelled}
use Rattle.message_view.proofs.Ended.{ended}

module _ {A : Type 0} (item : List ℕ → Part A) (spell : A → List ℕ) (Fits : A → Type 0)
    (reads : (x : A) (rest : List ℕ) → Fits x → item (spell x ++ rest) ≡ Ok (x, rest))
    (spelled : (bytes : List ℕ) (x : A) (rest : List ℕ) → AreBytes bytes → item bytes ≡ Ok (x, rest) → (bytes ≡ spell x ++ rest) × Fits x) where
  list_reads : (xs : List A) (rest : List ℕ) → AllByRecursion Fits xs → list_at item (length xs) (flat_map spell xs ++ rest) ≡ Ok (xs, rest)
  unfolding list_at
  list_reads [] rest h = refl
  list_reads (x ∷ xs) rest h =
      let first = reads x (flat_map spell xs ++ rest) h.0 in
      let more = list_reads xs rest h.1 in
      rw (append_assoc (spell x) (flat_map spell xs) rest, first, more) refl

  abbrev with-first : A → List A × List ℕ → Part (List A)
  with-first x others = Ok (x ∷ others.0, others.1)

  list_spelled : (n : ℕ) (bytes : List ℕ) (xs : List A) (rest : List ℕ) → AreBytes bytes → list_at item n bytes ≡ Ok (xs, rest)
      → (bytes ≡ flat_map spell xs ++ rest) × AllByRecursion Fits xs × (length xs ≡ n)
  unfolding list_at
  list_spelled zero bytes xs rest fits e = rw (← (same_part e), ← (same_rest e)) (refl, tt, refl)
  list_spelled (suc n) bytes xs rest fits e =
      let first = bind-inv (item bytes) _ (xs, rest) e in
      let others = bind-inv (list_at item n first.0.1) (with-first first.0.0) (xs, rest) first.2 in
      let head = spelled bytes first.0.0 first.0.1 fits first.1 in
      let tail = list_spelled n first.0.1 others.0.0 others.0.1 (bytes_behind bytes (spell first.0.0) first.0.1 head.0 fits) others.1 in
      carry (λ (ys : List A) (r : List ℕ). (bytes ≡ flat_map spell ys ++ r) × AllByRecursion Fits ys × (length ys ≡ suc n)) (first.0.0 ∷ others.0.0, others.0.1) (xs, rest) others.2
      (head.0 ∙ ap (λ (b : List ℕ). spell first.0.0 ++ b) tail.0 ∙ sym (append_assoc (spell first.0.0) (flat_map spell others.0.0) others.0.1), (head.1, tail.1), ap suc tail.2)

  pub counted_reads : (xs : List A) (rest : List ℕ) → FitsList Fits xs → counted_at item (int16 (length xs) ++ flat_map spell xs ++ rest) ≡ Ok (xs, rest)
  counted_reads xs rest h =
      let count = int16_reads (length xs) (flat_map spell xs ++ rest) h.count in
      ap (λ (p : Part ℕ). p >>= λ n. list_at item n.0 n.1) count ∙ list_reads xs rest h.each

  pub counted_spelled : (bytes : List ℕ) (xs : List A) (rest : List ℕ) → AreBytes bytes → counted_at item bytes ≡ Ok (xs, rest) → (bytes ≡ int16 (length xs) ++ flat_map spell xs ++ rest) × FitsList Fits xs
  counted_spelled bytes xs rest fits e =
      let count = bind-inv (int16_at bytes) _ (xs, rest) e in
      let head = int16_spelled bytes count.0.0 count.0.1 fits count.1 in
      let tail = list_spelled count.0.0 count.0.1 xs rest (bytes_behind bytes (int16 count.0.0) count.0.1 head.0 fits) count.2 in (
        head.0 ∙ ap (λ (b : List ℕ). int16 count.0.0 ++ b) tail.0 ∙ ap (λ (n : ℕ). int16 n ++ flat_map spell xs ++ rest) (sym tail.2),
        record { count = subst Fits16 (sym tail.2) head.1; each = tail.1 },
      )

module _ {A : Type 0} (item : List ℕ → Part (Option A)) (spell : A → List ℕ) (Fits : A → Type 0)
    (shrinks : (bytes rest : List ℕ) (x : Option A) → item bytes ≡ Ok (x, rest) → length rest < length bytes)
    (reads : (x : A) (rest : List ℕ) → Fits x → item (spell x ++ rest) ≡ Ok (Some x, rest))
    (ends : (rest : List ℕ) → item (0 ∷ rest) ≡ Ok (None, rest))
    (spelled : (bytes : List ℕ) (x : A) (rest : List ℕ) → item bytes ≡ Ok (Some x, rest) → (bytes ≡ spell x ++ rest) × Fits x)
    (ended-by : (bytes rest : List ℕ) → item bytes ≡ Ok (None, rest) → bytes ≡ 0 ∷ rest) where
  pub ended_reads : (xs : List A) (rest : List ℕ) → AllByRecursion Fits xs → ended_at item (flat_map spell xs ++ 0 ∷ rest) ≡ Ok (xs, rest)
  ended_reads [] rest h = ended item shrinks (0 ∷ rest) ∙ rw (ends rest) refl
  ended_reads (x ∷ xs) rest h =
      let first = reads x (flat_map spell xs ++ 0 ∷ rest) h.0 in
      let more = ended_reads xs rest h.1 in
      ap (λ (b : List ℕ). ended_at item b) (append_assoc (spell x) (flat_map spell xs) (0 ∷ rest)) ∙ ended item shrinks (spell x ++ (flat_map spell xs ++ 0 ∷ rest)) ∙ rw (first, more) refl

  abbrev add-first : A → List A × List ℕ → Part (List A)
  add-first x others = Ok (x ∷ others.0, others.1)

  item-spelled : (n : ℕ) (bytes after : List ℕ) (x : Option A) (xs : List A) (rest : List ℕ) → item bytes ≡ Ok (x, after)
      → ((bytes : List ℕ) (xs : List A) (rest : List ℕ) → list_until item n bytes ≡ Ok (xs, rest) → (bytes ≡ flat_map spell xs ++ 0 ∷ rest) × AllByRecursion Fits xs)
      → and_more x after (list_until item n) ≡ Ok (xs, rest) → (bytes ≡ flat_map spell xs ++ 0 ∷ rest) × AllByRecursion Fits xs
  item-spelled n bytes after None xs rest is more e = rw (← (same_part e), ← (same_rest e)) (ended-by bytes after is, tt)
  item-spelled n bytes after (Some x) xs rest is more e =
      let others = bind-inv (list_until item n after) (add-first x) (xs, rest) e in
      let head = spelled bytes x after is in
      let tail = more after others.0.0 others.0.1 others.1 in
      carry (λ (ys : List A) (r : List ℕ). (bytes ≡ flat_map spell ys ++ 0 ∷ r) × AllByRecursion Fits ys) (x ∷ others.0.0, others.0.1) (xs, rest) others.2
      (head.0 ∙ ap (λ (b : List ℕ). spell x ++ b) tail.0 ∙ sym (append_assoc (spell x) (flat_map spell others.0.0) (0 ∷ others.0.1)), (head.1, tail.1))

  until-spelled : (n : ℕ) (bytes : List ℕ) (xs : List A) (rest : List ℕ) → list_until item n bytes ≡ Ok (xs, rest) → (bytes ≡ flat_map spell xs ++ 0 ∷ rest) × AllByRecursion Fits xs
  unfolding list_until
  until-spelled zero bytes xs rest e = absurd (cc)
  until-spelled (suc n) bytes xs rest e =
      let first = bind-inv (item bytes) _ (xs, rest) e in
      item-spelled n bytes first.0.1 first.0.0 xs rest first.1 (λ b ys r h. until-spelled n b ys r h) first.2

  pub ended_spelled : (bytes : List ℕ) (xs : List A) (rest : List ℕ) → ended_at item bytes ≡ Ok (xs, rest) → (bytes ≡ flat_map spell xs ++ 0 ∷ rest) × AllByRecursion Fits xs
  unfolding ended_at
  ended_spelled bytes xs rest e = until-spelled (suc (length bytes)) bytes xs rest e
