-- The lines of the log about clients, each without its end: `pgsess: `, the client, and what is logged of it.
use Rattle.std.specs.Prelude.{ℕ, List, [], ◌∷◌, ◌++◌, ◌==◌, Option, Some, None, Result, Ok, Err, if◌then◌else◌, Bool, ◌||◌, bytes_eq, length, drop, codes, decimal}
use Rattle.message_view.specs.declared.refusal.Refusal.{Refusal}
use Rattle.message_view.specs.declared.ViewError.{ViewError}
use Rattle.message_view.specs.Refusals.{telling}
use Rattle.message_view.specs.Reading.{note_of}
use Rattle.message_view.specs.declared.kinds.TheConstants.{ASKS_CLEARTEXT, ASKS_MD5}
use Rattle.log_lines.specs.declared.lines.TheConstants.{SASL}
use Rattle.log_lines.specs.declared.notes.Client.{Client}
use Rattle.log_lines.specs.declared.notes.Server.{Server}
use Rattle.log_lines.specs.declared.notes.Unstarted.{Unstarted}
use Rattle.log_lines.specs.declared.notes.Unstarted.TheVariants as unstarted
use Rattle.log_lines.specs.declared.notes.Loss.{Loss}
use Rattle.log_lines.specs.declared.notes.Loss.TheVariants as loss
use Rattle.log_lines.specs.declared.notes.LoginFailure.{LoginFailure}
use Rattle.log_lines.specs.declared.notes.LoginFailure.TheVariants as failure
use Rattle.log_lines.specs.declared.notes.Note.{Note}
use Rattle.log_lines.specs.declared.notes.Note.TheVariants as note
use Rattle.log_lines.specs.Shown.{Text, shown_name, quoted, shown_text, address, after}

-- ---- whom

abbrev pub numbered : Option ℕ → Text
numbered None = []
numbered (Some n) = 32 ∷ decimal n

-- as far as its StartupMessage was read
abbrev pub named : Text → Text → Text
named user database = if length user == 0 then [] else 32 ∷ shown_name user ++ 64 ∷ shown_name database

abbrev pub who : Client → Text
who c = codes "client" ++ numbered c.number ++ named c.user.now c.database.now ++ codes " from " ++ address c.visit.host.bytes c.visit.port

-- ---- an ErrorResponse of a server

-- the text of the first field of this code
abbrev pub field : ℕ → List (ℕ × Text) → Text
field code [] = []
field code (f ∷ fields) = if f.0 == code then f.1 else field code fields

-- the fields of a message; none where it is faulty
abbrev pub fields_or_none : Result (List (ℕ × Text)) ViewError → List (ℕ × Text)
fields_or_none (Ok fields) = fields
fields_or_none (Err fault) = []

-- the same of a whole message, whose body follows its type and length
abbrev pub field_of : ℕ → Text → Text
field_of code message = field code (fields_or_none (note_of (drop 5 message)))

-- the SQLSTATE (C) of a whole message
abbrev pub sqlstate : Text → Text
sqlstate message = field_of 67 message

-- the severity of a whole message: V, which is never translated; S where there is none, as of releases before 9.6
abbrev pub severity : Text → Text
severity message = if length (field_of 86 message) == 0 then field_of 83 message else field_of 86 message

-- its session ends by it (PostgreSQL manual, "Message Severity Levels")
abbrev pub ends_session : Text → Bool
ends_session message = bytes_eq (severity message) (codes "FATAL") || bytes_eq (severity message) (codes "PANIC")

-- its SQLSTATE (C) and its text (M)
abbrev pub state_and_text : List (ℕ × Text) → Text
state_and_text fields = shown_text (field 67 fields) ++ 32 ∷ shown_text (field 77 fields)

-- of the whole message
abbrev pub error_words : Text → Text
error_words message = state_and_text (fields_or_none (note_of (drop 5 message)))

-- what a server said of its session's end
abbrev pub said_words : Text → Text
said_words message = codes "its server said " ++ error_words message

-- ---- why a link wasn't started

-- the server's question for another authentication
abbrev pub asks_for : ℕ → Text
asks_for n =
    if n == SASL then codes " asks for SCRAM (authentication method 10), which can't be answered: the user file has no password, or SCRAM-SHA-256 isn't offered" else (
    if n == ASKS_CLEARTEXT then codes " asks for a password (authentication method 3), which can't be given: the user file has none" else (
    if n == ASKS_MD5 then codes " asks for MD5 (authentication method 5), which can't be answered: the user file has neither a password nor its digest" else
    codes " asks for authentication method " ++ decimal n ++ codes ", which isn't served: use SCRAM, md5 or a password"))

abbrev pub unstarted_words : Unstarted → Text
unstarted_words unstarted.NotReached = codes " could not be reached (P7)"
unstarted_words (unstarted.Unanswerable n) = asks_for n ++ codes " (P7)"
unstarted_words unstarted.Lost = codes " closed the connection within its start (P7)"
unstarted_words unstarted.Unexpected = codes " answered its start by no message that belongs there (P7)"
unstarted_words unstarted.TimedOut = codes " didn't answer its start in time (P7)"
unstarted_words (unstarted.Refused message) = codes " refused the start: " ++ error_words message.now

-- what its client does of it
abbrev pub unstarted_by : Text → Server → Unstarted → Option ℕ → Text
unstarted_by word server why ms = word ++ after ms ++ codes ": server " ++ address server.host.now server.port ++ unstarted_words why

-- ---- which link a client has

-- the process number of its server's BackendKeyData, where it told one
abbrev pub process_words : Option ℕ → Text
process_words None = []
process_words (Some process) = codes ", process " ++ decimal process

abbrev pub lent_words : ℕ → Server → Option ℕ → Text
lent_words number server process = codes " has link " ++ decimal number ++ codes " to server " ++ address server.host.now server.port ++ process_words process

-- ---- why a link was closed

abbrev pub loss_words : Loss → Text
loss_words loss.Ended = codes "server connection ended"
loss_words (loss.Said message) = said_words message.now
loss_words loss.InBlock = codes "left within a transaction block"
loss_words loss.Unanswered = codes "left before all was answered"
loss_words loss.Foreign = codes "malformed server message"
loss_words loss.NotReset = codes "not reset by DISCARD ALL"
loss_words loss.Cancelled = codes "cancel requested"

-- ---- what is logged

-- a refusal of this pooler: its text and its number
abbrev pub refusal_words : Refusal → Text
refusal_words r = (telling r).message ++ codes " (" ++ (telling r).number ++ codes ")"

-- an unsupported startup parameter
abbrev pub parameter_words : Text → Text
parameter_words name = codes "unsupported startup parameter " ++ quoted name ++ codes " (P4)"

-- why a login failed
abbrev pub failure_words : LoginFailure → Text
failure_words failure.NoUser = codes "no such user"
failure_words failure.Digest = codes "its secret is an MD5 digest, by which SCRAM judges nobody"
failure_words failure.Rounds = codes "its SCRAM verifier has more than 1,000,000 rounds"
failure_words failure.NoSecret = codes "its secret is empty, or a spoiled SCRAM verifier"
failure_words failure.NoAdmin = codes "not of admin_users or stats_users"
failure_words failure.WrongPassword = codes "wrong password"

-- after so many milliseconds, where they are known
abbrev pub words : Note → Option ℕ → Text
words note.LoggedIn ms = codes " in"
words note.Closed ms = codes " out" ++ after ms
words note.Late ms = codes " closed" ++ after ms ++ codes ": not through its login in client_login_timeout"
words (note.Refused r) ms = codes " refused" ++ after ms ++ codes ": " ++ refusal_words r
words (note.UnsupportedParameter name) ms = codes " refused" ++ after ms ++ codes ": " ++ parameter_words name.now
words (note.LoginFailed why) ms = codes " failed" ++ after ms ++ codes ": password authentication failed (28P01): " ++ failure_words why
words note.NoDatabase ms = codes " failed" ++ after ms ++ codes ": database does not exist (3D000)"
words (note.Unstarted server why) ms = unstarted_by (codes " refused") server why ms
words (note.AsksAgain server message) ms = unstarted_by (codes " asks again") server (unstarted.Refused message) ms
words (note.Lent number server process) ms = lent_words number server process
words (note.LinkLost number why) ms = codes " link " ++ decimal number ++ codes " closed: " ++ loss_words why
words (note.Cancels number) ms = codes " cancels link " ++ decimal number ++ codes "'s statement"
words note.CancelsNobody ms = codes " requests a cancel by a key that nobody has"
words note.Paused ms = codes " paused the pool"
words note.Resumed ms = codes " resumed the pool"
words note.Reconnecting ms = codes " reconnects the pool"
words note.ShuttingDown ms = codes " shuts the pool down"

abbrev pub line : Client → Note → Option ℕ → Text
line c logged ms = codes "pgsess: " ++ who c ++ words logged ms
