-- Where rows stand, noted by their numbers.
use Rattle.std.specs.Prelude.{◌≡◌, ◌-◌, ℕ, List, Option, Some, None, cond, nat_eq}
use Rattle.std.specs.Map.{lookup}
use Rattle.std.specs.Option.{option_map}
use Rattle.numbered_rows.specs.Numbered.{HasSlot}

-- the places to which rows came, by their numbers
abbrev pub Places : Type 0
Places = List (ℕ × ℕ)

-- the slot of a number's row, where so many slots have gone at the front
abbrev pub noted : Places → ℕ → ℕ → Option ℕ
noted places gone number = option_map (λ came. came - gone) (lookup (nat_eq number) places)

-- of each number its row's slot is noted, or that there is no such row
abbrev pub AreNoted : {A : Type 0} → (A → ℕ) → Places → ℕ → List (Option A) → Type 0
AreNoted number places gone slots = (n : ℕ) → HasSlot number n slots (noted places gone n)

-- a note more, and one less
abbrev pub Notes : ℕ → ℕ → Places → Places → Type 0
Notes number place old new = (n : ℕ) → lookup (nat_eq n) new ≡ cond (nat_eq number n) (Some place) (lookup (nat_eq n) old)

abbrev pub Forgets : ℕ → Places → Places → Type 0
Forgets number old new = (n : ℕ) → lookup (nat_eq n) new ≡ cond (nat_eq number n) None (lookup (nat_eq n) old)

-- notes that weren't given up are of all numbers
abbrev pub AreNotedIfAny : {A : Type 0} → (A → ℕ) → Option Places → ℕ → List (Option A) → Type 0
AreNotedIfAny number None gone slots = Unit {0}
AreNotedIfAny number (Some places) gone slots = AreNoted number places gone slots
