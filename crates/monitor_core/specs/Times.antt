-- Moments, as PgBouncer's console shows them: a date of the Gregorian calendar and a time of day, in UTC.
use Rattle.std.specs.Prelude.{ℕ, ◌+◌, ◌-◌, ◌*◌, ◌/◌, ◌%◌, List, [], ◌∷◌, ◌++◌, codes, decimal, if◌then◌else◌, nat_lt}
use Rattle.mini_sql.specs.Words.{Text}
use Rattle.monitor_core.specs.declared.times.Date.{Date}

-- ---- dates, by the days since the first of March of the year 0, in eras of 400 years (H. Hinnant, "chrono-Compatible Low-Level Date Algorithms")

abbrev pub year_of_era : ℕ → ℕ
year_of_era n = (n - n / 1460 + n / 36524 - n / 146096) / 365

-- the days of the year's before, and of those in it, both counted from March
abbrev pub day_of_year : ℕ → ℕ → ℕ
day_of_year n year = n - (365 * year + year / 4 - year / 100)

-- the month, 0 for March, of a day of the year
abbrev pub march_month : ℕ → ℕ
march_month day = (5 * day + 2) / 153

abbrev pub month : ℕ → ℕ
month m = if nat_lt m 10 then m + 3 else m - 9

abbrev pub day : ℕ → ℕ → ℕ
day d m = d - (153 * m + 2) / 5 + 1

abbrev pub year : ℕ → ℕ → ℕ → ℕ
year era y m = era * 400 + y + (if nat_lt m 10 then 0 else 1)

abbrev pub date_in_year : ℕ → ℕ → ℕ → ℕ → Date
date_in_year era y d m = record { year = year era y m; month = month m; day = day d m }

abbrev pub date_by : ℕ → ℕ → ℕ → Date
date_by era y d = date_in_year era y d (march_month d)

abbrev pub date_in_era : ℕ → ℕ → ℕ → Date
date_in_era era n y = date_by era y (day_of_year n y)

abbrev pub date_of : ℕ → Date
date_of n = date_in_era (n / 146097) (n % 146097) (year_of_era (n % 146097))

-- ---- as texts

abbrev pub two_digits : ℕ → Text
two_digits n = (48 + n / 10 % 10) ∷ (48 + n % 10) ∷ []

abbrev pub date_text : Date → Text
date_text d = decimal d.year ++ 45 ∷ two_digits d.month ++ 45 ∷ two_digits d.day

abbrev pub time_text : ℕ → Text
time_text s = two_digits (s / 3600) ++ 58 ∷ two_digits (s / 60 % 60) ++ 58 ∷ two_digits (s % 60)

-- so many seconds since 1970 began, 719468 days behind that March
unfoldable pub moment : ℕ → Text
moment s = date_text (date_of (s / 86400 + 719468)) ++ 32 ∷ time_text (s % 86400) ++ codes " UTC"
