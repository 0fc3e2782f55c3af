-- What values of the code stand for.
use Rattle.std.specs.Borrow.{Bor}
use Rattle.std.specs.Prelude.{ℕ, List}
use Rattle.log_lines.specs.Shown.{Text}
use Rattle.metrics_text.specs.declared.columns.Column.{Column}
use Rattle.metrics_text.specs.Columns.{ColumnOf}

abbrev pub column_view : Column → ColumnOf
column_view c = record { name = c.name.now; kind = c.kind; measure = c.measure; help = c.help.now }

-- a label's name and value
abbrev pub label_view : Bor (List ℕ) × Bor (List ℕ) → Text × Text
label_view l = (l.0.now, l.1.now)
