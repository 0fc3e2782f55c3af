-- What a link's server reported of its parameters at the start (ParameterStatus), and what it has reported
-- since (PostgreSQL manual, "Asynchronous Operations").
use Rattle.std.specs.Prelude.{◌≡◌, List, [], ◌∷◌, Bool, fold, map, if◌then◌else◌, bytes_eq}
use Rattle.std.specs.List.{list_any}
use Rattle.start_keys.specs.StartPairs.{Text}

-- a report: the name of a parameter and its value
abbrev pub Report : Type 0
Report = Text × Text

-- ---- at the start

-- What the start reported, one report more: of equal names the last value counts, at the place of the first.
abbrev pub with_start : List Report → Report → List Report
with_start [] r = r ∷ []
with_start (p ∷ start) r = if bytes_eq p.0 r.0 then r ∷ start else p ∷ with_start start r

-- whether the start reported this name
abbrev pub is_reported : List Report → Text → Bool
is_reported start name = list_any (λ p. bytes_eq p.0 name) start

abbrev pub values_of : List Report → List Text
values_of start = map (λ p. p.1) start

-- ---- since the start

-- the values of the start's names, after a report
abbrev pub with_report : List Report → List Text → Report → List Text
with_report (p ∷ start) (value ∷ values) r = if bytes_eq p.0 r.0 then r.1 ∷ values else value ∷ with_report start values r
with_report _ values r = values

-- The value last told of each of the start's names: that of the last report of this name, or the start's
-- where there is none.
abbrev pub last_told : List Report → List Report → List Text
last_told start reports = fold (with_report start) (values_of start) reports

-- all values last told are the start's, byte for byte
abbrev pub AreAsAtStart : List Report → List Report → Type 0
AreAsAtStart start reports = last_told start reports ≡ values_of start
