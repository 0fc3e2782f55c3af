-- What a `Reported` keeps, and what each call makes of it.
use Rattle.std.specs.Prelude.{◌≡◌, ℕ, suc, List, [], ◌∷◌, ◌++◌, length, slice_set, Bool, true, false, not, ◌||◌, nat_lt, Result, Ok, Err, if◌then◌else◌, bytes_eq}
use Rattle.std.specs.List.{list_any}
use Rattle.start_keys.specs.StartPairs.{Text}
use Rattle.param_track.specs.declared.reported.TheConstants.{MAX_NAMES}
use Rattle.param_track.specs.declared.reported.ReportError.{ReportError}
use Rattle.param_track.specs.declared.reported.ReportError.TheVariants.{TooMany, OutOfMemory}
use Rattle.param_track.specs.Reports.{Report, last_told}

-- a name that the start reported, the start's value, and whether the value last told is another
pub record KeptReport : Type 0 where
  pub name : Text
  pub value : Text
  pub differs : Bool

abbrev pub kept_of : List Report → List Text → List KeptReport
kept_of (p ∷ start) (value ∷ values) = (record { name = p.0; value = p.1; differs = not (bytes_eq p.1 value) }) ∷ kept_of start values
kept_of _ _ = []

-- It tells of the start's reports, each name once, and of the reports since then.
abbrev pub Tells : List KeptReport → List Report → List Report → Type 0
Tells kept start reports = kept ≡ kept_of start (last_told start reports)

abbrev pub has_name : List KeptReport → Text → Bool
has_name kept name = list_any (λ k. bytes_eq k.name name) kept

-- ---- one more report of the start

abbrev pub first_told : Report → KeptReport
first_told r = record { name = r.0; value = r.1; differs = false }

abbrev pub with_first : List KeptReport → Report → List KeptReport
with_first [] r = first_told r ∷ []
with_first (k ∷ kept) r = if bytes_eq k.name r.0 then first_told r ∷ kept else k ∷ with_first kept r

-- it has the name, or room for another
abbrev pub fits : List KeptReport → Text → Bool
fits kept name = has_name kept name || nat_lt (length kept) MAX_NAMES

-- It was added; or all is as it was, and it doesn't fit or memory was refused.
abbrev pub Adds : Report → List KeptReport → List KeptReport → Result (Unit {0}) ReportError → Type 0
Adds r old new (Ok _) = (fits old r.0 ≡ true) × (new ≡ with_first old r)
Adds r old new (Err TooMany) = (fits old r.0 ≡ false) × (new ≡ old)
Adds r old new (Err OutOfMemory) = (fits old r.0 ≡ true) × (new ≡ old)

-- ---- a report since the start

abbrev pub told : KeptReport → Text → KeptReport
told k value = record k { differs = not (bytes_eq k.value value) }

abbrev pub with_told : List KeptReport → Report → List KeptReport
with_told [] r = []
with_told (k ∷ kept) r = if bytes_eq k.name r.0 then told k r.1 ∷ kept else k ∷ with_told kept r

-- ---- readers

-- the value last told of one of them is another than at the start
abbrev pub is_one_other : List KeptReport → Bool
is_one_other kept = list_any (λ k. k.differs) kept

abbrev pub is_at_start : List KeptReport → Bool
is_at_start kept = not (is_one_other kept)

-- how many come before the name
abbrev pub place_of : Text → List KeptReport → ℕ
place_of name [] = 0
place_of name (k ∷ kept) = if bytes_eq k.name name then 0 else suc (place_of name kept)

-- at this place, or at the end where there is no such place
abbrev pub put_at : ℕ → KeptReport → List KeptReport → List KeptReport
put_at place k kept = if nat_lt place (length kept) then slice_set kept place k else kept ++ k ∷ []
