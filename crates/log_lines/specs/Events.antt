-- The lines of the log about the program itself, each without its end.
use Rattle.std.specs.Prelude.{ℕ, List, [], ◌∷◌, ◌++◌, codes, decimal}
use Rattle.std.specs.List.{flat_map}
use Rattle.std.specs.Borrow.{Bor}
use Rattle.log_lines.specs.declared.events.Totals.{Totals}
use Rattle.log_lines.specs.declared.events.Rates.{Rates}
use Rattle.log_lines.specs.declared.events.Event.{Event}
use Rattle.log_lines.specs.declared.events.Event.TheVariants as event
use Rattle.log_lines.specs.declared.events.Heard.{Heard}
use Rattle.log_lines.specs.declared.events.Heard.TheVariants as heard
use Rattle.log_lines.specs.Lines.{said_words}
use Rattle.log_lines.specs.Shown.{Text, address, shown_name, shown_text}

-- a number, and what there are so many of
abbrev pub counted : ℕ × Text → Text
counted c = decimal c.0 ++ c.1

abbrev pub counts : Totals → List (ℕ × Text)
counts t =
    (t.decisions, codes " decisions, ") ∷ (t.starts, codes " starts; ")
    ∷ (t.arrived, codes " arrived, ") ∷ (t.granted, codes " granted, ") ∷ (t.given_back, codes " given back, ")
    ∷ (t.lost, codes " lost, ") ∷ (t.left, codes " left, ") ∷ (t.others, codes " others") ∷ []

-- a second, and on average
abbrev pub rates : Rates → List (ℕ × Text)
rates r =
    (r.transactions, codes " transactions/s, ") ∷ (r.queries, codes " queries/s, ") ∷ (r.received, codes " B/s in, ") ∷ (r.sent, codes " B/s out; ")
    ∷ (r.transaction_time, codes " us a transaction, ") ∷ (r.query_time, codes " us a query, ") ∷ (r.wait_time, codes " us a wait") ∷ []

-- the same of what the code holds
abbrev pub counted_view : ℕ × Bor Text → Text
counted_view c = counted (c.0, c.1.now)

-- a host or folder, and a port
abbrev pub place : Text → ℕ → Text
place host port = shown_name host ++ 32 ∷ decimal port

abbrev pub not_listening : Text → ℕ → Text → Text
not_listening folder port why = codes "not listening " ++ (place folder port ++ (codes ": " ++ shown_text why))

abbrev pub no_metrics : Text → ℕ → Text → Text
no_metrics host port why = codes "not listening for metrics at " ++ (address host port ++ (codes ": " ++ shown_text why))

abbrev pub unreached : Text → ℕ → Text → Text
unreached host port why = codes "server " ++ (address host port ++ (codes " not reached: " ++ shown_text why))

abbrev pub no_file : Text → ℕ → Text → Text
no_file host port why = codes "no file left for a connection to server " ++ (address host port ++ (codes ": " ++ shown_text why))

abbrev pub no_passwords : ℕ → Text → Text
no_passwords n first = counted (n, codes " secrets of the user file accept no password, the first that of ") ++ shown_name first

abbrev pub heard_words : Heard → Text
heard_words heard.Ended = codes "server connection ended"
heard_words (heard.Said message) = said_words message.now
heard_words heard.Spoke = codes "its server said what nobody asked for"

abbrev pub event_words : Event → Text
event_words (event.Listening host port) = codes "listening " ++ place host.now port
event_words (event.NotListening folder port why) = not_listening folder.now port why.now
event_words (event.ListeningForMetrics host port) = codes "listening for metrics at " ++ address host.now port
event_words (event.NotListeningForMetrics host port why) = no_metrics host.now port why.now
event_words (event.Unreached host port why) = unreached host.now port why.now
event_words (event.NoFile host port why) = no_file host.now port why.now
event_words event.NoClock = codes "no limit of time holds until the clock can be read"
event_words event.Reloaded = codes "reloaded"
event_words (event.NotReloaded fault) = codes "not reloaded: " ++ shown_text fault.now
event_words (event.AsAtStart what) = codes "not changed by RELOAD: " ++ shown_text what.now
event_words (event.NoPasswords n first) = no_passwords n first.now
event_words (event.Wanting n) = counted (n, codes " connections closed for want of a thread, a poll, a file or memory")
event_words (event.Late n) = counted (n, codes " connections closed that didn't say who they are in client_login_timeout")
event_words (event.Dropped n) = counted (n, codes " lines of the log were dropped")
event_words (event.IdleClosed n h) = codes "idle link " ++ decimal n ++ codes " closed: " ++ heard_words h
event_words (event.Stats r) = codes "stats: " ++ flat_map counted (rates r)
event_words (event.Ended t) = codes "shut down: " ++ flat_map counted (counts t)

abbrev pub event_line : Event → Text
event_line e = codes "pgsess: " ++ event_words e
