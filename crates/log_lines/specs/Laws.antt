-- The law of the log's lines. It is the whole contract of a function of src/laws.rt.
use Rattle.std.specs.Prelude.{◌≡◌, ℕ, Option, true}
use Rattle.std.specs.List.{list_all}
use Rattle.log_lines.specs.declared.notes.Client.{Client}
use Rattle.log_lines.specs.declared.notes.Note.{Note}
use Rattle.log_lines.specs.declared.events.Event.{Event}
use Rattle.log_lines.specs.Shown.{is_printing}
use Rattle.log_lines.specs.Lines.{line}
use Rattle.log_lines.specs.Events.{event_line}

-- Whatever names and texts are logged, a line is printing ASCII: it neither ends early nor holds a control byte.
pub record LinesArePrinting : Type 0 where
  pub notes : (c : Client) (logged : Note) (ms : Option ℕ) → list_all is_printing (line c logged ms) ≡ true
  pub events : (e : Event) → list_all is_printing (event_line e) ≡ true
