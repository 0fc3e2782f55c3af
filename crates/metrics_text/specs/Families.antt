-- A table as OpenMetrics' text tells it: a family of metrics for each column, and in it a sample for each row (OpenMetrics 1.0, "Text Format").
use Rattle.std.specs.Prelude.{ℕ, ◌/◌, ◌%◌, ◌+◌, List, [], ◌∷◌, ◌++◌, codes, decimal, slice_index}
use Rattle.std.specs.List.{enumerate_from, flat_map}
use Rattle.log_lines.specs.Shown.{Text}
use Rattle.metrics_text.specs.declared.columns.Kind.{Kind}
use Rattle.metrics_text.specs.declared.columns.Kind.TheVariants.{Gauge, Counter, Info}
use Rattle.metrics_text.specs.declared.columns.Measure.{Measure}
use Rattle.metrics_text.specs.declared.columns.Measure.TheVariants.{Count, Bytes, Seconds, Microseconds}
use Rattle.metrics_text.specs.Columns.{ColumnOf}

-- the text of its labels, and a figure for each column
pub record RowOf : Type 0 where
  pub labels : Text
  pub figures : List ℕ

-- ---- what is said of a family: its type, its unit where it has one, and its help

abbrev pub line : Text → Text → Text → Text
line words name rest = words ++ name ++ 32 ∷ rest ++ 10 ∷ []

abbrev pub kind_name : Kind → Text
kind_name Gauge = codes "gauge"
kind_name Counter = codes "counter"
kind_name Info = codes "info"

abbrev pub unit_line : Measure → Text → Text
unit_line Count name = []
unit_line Bytes name = line (codes "# UNIT ") name (codes "bytes")
unit_line Seconds name = line (codes "# UNIT ") name (codes "seconds")
unit_line Microseconds name = line (codes "# UNIT ") name (codes "seconds")

unfoldable pub heading : ColumnOf → Text
heading c = line (codes "# TYPE ") c.name (kind_name c.kind) ++ unit_line c.measure c.name ++ line (codes "# HELP ") c.name c.help

-- ---- samples

-- what a sample's name has behind the family's
abbrev pub suffix : Kind → Text
suffix Gauge = []
suffix Counter = codes "_total"
suffix Info = codes "_info"

-- the last decimal digit of a number
abbrev pub digit : ℕ → ℕ
digit n = 48 + n % 10

-- microseconds as seconds, with six places
abbrev pub seconds : ℕ → Text
seconds n =
    decimal (n / 1000000)
    ++ 46 ∷ digit (n / 100000) ∷ digit (n / 10000) ∷ digit (n / 1000) ∷ digit (n / 100) ∷ digit (n / 10) ∷ digit n ∷ []

abbrev pub figure_text : Measure → ℕ → Text
figure_text Count n = decimal n
figure_text Bytes n = decimal n
figure_text Seconds n = decimal n
figure_text Microseconds n = seconds n

unfoldable pub sample : ColumnOf → ℕ → RowOf → Text
sample c place r = c.name ++ suffix c.kind ++ r.labels ++ 32 ∷ figure_text c.measure (slice_index r.figures place) ++ 10 ∷ []

-- ---- families

-- the column at this place
unfoldable pub family : List RowOf → ℕ × ColumnOf → Text
family rows c = heading c.1 ++ flat_map (sample c.1 c.0) rows

abbrev pub table : List ColumnOf → List RowOf → Text
table columns rows = flat_map (family rows) (enumerate_from 0 columns)
