use Rattle.std.proofs.Common.{◌≡◌, ◌-◌}
use Rattle.message_view.specs.Reading.{rest_of, list_at, column_at}
use Rattle.message_view.proofs.row_views.skip_columns.Given as goal

abbrev pub invariant-loop-done : goal.invariant-loop-done
invariant-loop-done l = rest_of (list_at column_at (l.count - l.done) l.rest) ≡ rest_of (list_at column_at l.count l.fn.bytes)
