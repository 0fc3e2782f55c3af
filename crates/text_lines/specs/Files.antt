-- A file that is read line by line: each line is judged after what was read before it, and the first faulty line decides.
use Rattle.std.specs.Prelude.{◌≡◌, ◌⊎◌, ℕ, ◌+◌, ◌-◌, ◌≤◌, Bool, true, List, [], ◌∷◌, ◌++◌, length, take, fold, slice_get, Option, Some, None, option_map, Result, Ok, Err}

abbrev pub Line : Type 0
Line = List ℕ

abbrev pub or_later : {C : Type 0} → Option C → ℕ → Option (C × ℕ) → Option (C × ℕ)
or_later None n later = later
or_later (Some c) n later = Some (c, n)

-- what taking a part of a file answers, where it has this fault and else leaves this; out of memory comes after every other fault
abbrev pub Took : {S C : Type 0} → C → Option C → S → S → Result (Unit {0}) C → Type 0
Took memory fault next new (Ok done) = (fault ≡ None) × (new ≡ next)
Took memory fault next new (Err c) = (fault ≡ Some c) ⊎ ((fault ≡ None) × (c ≡ memory))

-- the same of a line, which runs out of memory only where it has something to keep
abbrev pub TookLine : {S C : Type 0} → C → Bool → Option C → S → S → Result (Unit {0}) C → Type 0
TookLine memory kept fault next new (Ok done) = (fault ≡ None) × (new ≡ next)
TookLine memory kept fault next new (Err c) = (fault ≡ Some c) ⊎ ((fault ≡ None) × (c ≡ memory) × (kept ≡ true))

-- what a line adds to what was read before it, and its fault after that
module _ {S C : Type 0} (add : S → Line → S) (fault : S → Line → Option C) (empty : S) where
  -- what some lines say, one after another
  unfoldable pub said_by : List Line → S
  said_by lines = fold add empty lines

  -- the first faulty line among those that follow lines without a fault, and its place in the file, counted from 1
  abbrev pub first_fault : List Line → List Line → Option (C × ℕ)
  first_fault before [] = None
  first_fault before (line ∷ lines) =
      or_later (fault (said_by before) line) (length before + 1) (first_fault (before ++ line ∷ []) lines)

  abbrev pub IsFaultless : List Line → Type 0
  IsFaultless lines = first_fault [] lines ≡ None

  -- memory ran out at the n-th line: it has something to keep, and neither it nor a line before it has a fault
  abbrev pub RanOutAt : (Line → Bool) → List Line → ℕ → Type 0
  RanOutAt keeps lines n = (1 ≤ n) × (option_map keeps (slice_get lines (n - 1)) ≡ Some true) × IsFaultless (take n lines)

  -- the fault that is reported with the n-th line: the first faulty line's, or out of memory
  abbrev pub IsReported : C → (Line → Bool) → List Line → C → ℕ → Type 0
  IsReported memory keeps lines c n = (first_fault [] lines ≡ Some (c, n)) ⊎ ((c ≡ memory) × RanOutAt keeps lines n)
