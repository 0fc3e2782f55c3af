use Rattle.std.proofs.Common.{◌≡◌}
use Rattle.mini_sql.specs.Statements.{columns_at, phrase, read}
use Rattle.mini_sql.proofs.Skipping.{size_of, plus}
use Rattle.mini_sql.proofs.lists.after_columns.Given as goal

abbrev pub invariant-loop-count : goal.invariant-loop-count
invariant-loop-count l = size_of (read (columns_at l.typed) (phrase l.text)) ≡ plus l.count (size_of (read (columns_at l.typed) (phrase l.rest)))
