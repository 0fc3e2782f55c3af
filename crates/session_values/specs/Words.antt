use Rattle.std.specs.Prelude.{ℕ, List}
use Rattle.std.specs.Borrow.{Bor}
use Rattle.mini_sql.specs.Words.{Text}

abbrev pub now_of : Bor (List ℕ) → Text
now_of b = b.now

abbrev pub texts_of : Bor (List ℕ) × Bor (List ℕ) → Text × Text
texts_of w = (w.0.now, w.1.now)
