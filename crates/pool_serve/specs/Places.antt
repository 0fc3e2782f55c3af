-- The places beyond the limit of clients.
use Rattle.std.specs.Prelude.{Bool, true, false, bytes_eq, codes}
use Rattle.book_model.specs.declared.events.Beyond.{Beyond}
use Rattle.book_model.specs.declared.events.Beyond.TheVariants.{Nothing, Console, LocalConsole}
use Rattle.log_lines.specs.declared.notes.Visit.{Visit}
use Rattle.login_core.specs.Logins.{LoginView, arrives_at_console, rows_of}

-- it came over a Unix socket
abbrev pub is_local : Visit → Bool
is_local visit = bytes_eq visit.host.bytes (codes "unix")

-- who comes to a database uses none, and who comes to the console as one of its users those of the console, more of them over a Unix socket
abbrev pub places_of : Bool → Bool → Beyond
places_of false local = Nothing
places_of true false = Console
places_of true true = LocalConsole

abbrev pub beyond_for : LoginView → Visit → Beyond
beyond_for v visit = places_of (arrives_at_console (rows_of v) v.awaiting) (is_local visit)
