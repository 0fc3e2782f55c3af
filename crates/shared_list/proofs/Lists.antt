-- Items of lists, one list after another.
use Rattle.std.proofs.Common.{ap, sym, add-one, ℕ, zero, suc, ◌+◌, ◌<◌, length, get_or, drop, ◌≡◌, List, [], ◌∷◌, ◌++◌, arith, append_assoc, Some}
use Rattle.std.specs.Prelude.{slice_get, map, take}
use Rattle.std.proofs.lemmas.List.{take-map}
use Rattle.std.proofs.lemmas.List.{append-nil as append_nil}
use Rattle.std.proofs.lemmas.Option.{get_or_from_slice_get, slice_get_within}
use Rattle.shared_list.specs.Lists.{all_of}

pub all_push : {T : Type 0} (ts : List (List T)) (t : List T) → all_of (ts ++ t ∷ []) ≡ all_of ts ++ t
all_push [] t = append_nil t
all_push (x ∷ ts) t = grind (arith, all_push ts t, append_assoc)

all_cut : {T : Type 0} (ts : List (List T)) (i : ℕ) (t : List T) → i < length ts → t ≡ get_or ts i t → all_of (drop i ts) ≡ t ++ all_of (drop (suc i) ts)
all_cut [] i t h e = grind (arith, h)
all_cut (y ∷ ts) zero t h e = ap (λ z. z ++ all_of ts) (sym e)
all_cut (y ∷ ts) (suc i) t h e = all_cut ts i t (omega (arith, h)) e

pub all_step : {T : Type 0} (ts : List (List T)) (i : ℕ) (t : List T) (xs : List T) → slice_get ts i ≡ Some t → (xs ++ t) ++ all_of (drop (i + 1) ts) ≡ xs ++ all_of (drop i ts)
all_step ts i t xs h =
    let e : t ≡ get_or ts i t = sym (get_or_from_slice_get ts i t t h) in
    rw (add-one i, all_cut ts i t (slice_get_within ts i t h) e) (append_assoc xs t (all_of (drop (suc i) ts)))

-- a front of a list of what each item gives
pub take_map : {X Y : Type 0} (f : X → Y) (n : ℕ) (xs : List X) → map f (take n xs) ≡ take n (map f xs)
take_map f n xs = sym (take-map f n xs)
