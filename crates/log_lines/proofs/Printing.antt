-- Each line of the log is printing ASCII.
use Rattle.std.proofs.Common.{◌≡◌, ◌∙◌, ap, refl, arith, ℕ, zero, suc, ◌+◌, ◌<◌, ◌≤◌, ◌/◌, ◌%◌, List, [], ◌∷◌, ◌++◌, Bool, true, false, Option, Some, None, length, take, drop, cond}
use Rattle.std.specs.Prelude.{◌==◌, ◌&&◌, not, if◌then◌else◌, nat_lt, nat_le, codes, decimal}
use Rattle.std.specs.List.{list_all, list_any, flat_map}
use Rattle.std.specs.Fmt.{digits, digits_onto, digit_glyph}
use Rattle.std.proofs.lemmas.Bool.{le-leb, lt-ltb, false≢true}
use Rattle.std.proofs.lemmas.List.Folds.{list_all-append}
use Rattle.message_view.specs.declared.refusal.Refusal.{Refusal}
use Rattle.message_view.specs.declared.refusal.Refusal.TheVariants.{TooManyClients, UnsupportedProtocol, MalformedClientMessage, UnsupportedParameter, WaitedTooLong, ServerFailed, ServerNotReached, ShuttingDown, OutOfMemory, ClientMessageTooLong, MalformedServerMessage, LastDecision}
use Rattle.message_view.specs.Reading.{note_of}
use Rattle.log_lines.specs.declared.notes.Client.{Client}
use Rattle.log_lines.specs.declared.notes.Server.{Server}
use Rattle.log_lines.specs.declared.notes.Unstarted.{Unstarted}
use Rattle.log_lines.specs.declared.notes.Unstarted.TheVariants as unstarted
use Rattle.log_lines.specs.declared.notes.Loss.{Loss}
use Rattle.log_lines.specs.declared.notes.Loss.TheVariants as loss
use Rattle.message_view.specs.declared.kinds.TheConstants.{ASKS_CLEARTEXT, ASKS_MD5}
use Rattle.log_lines.specs.declared.lines.TheConstants.{SASL}
use Rattle.log_lines.specs.declared.notes.LoginFailure.{LoginFailure}
use Rattle.log_lines.specs.declared.notes.LoginFailure.TheVariants as failure
use Rattle.log_lines.specs.declared.notes.Note.{Note}
use Rattle.log_lines.specs.declared.notes.Note.TheVariants as note
use Rattle.log_lines.specs.declared.events.Totals.{Totals}
use Rattle.log_lines.specs.declared.events.Rates.{Rates}
use Rattle.log_lines.specs.declared.events.Event.{Event}
use Rattle.log_lines.specs.declared.events.Event.TheVariants as event
use Rattle.log_lines.specs.Shown.{Text, is_printing, hex_digit, shown_byte, shown, shown_text, shown_name, quoted, shown_host, address, after}
use Rattle.log_lines.specs.Lines.{numbered, named, who, state_and_text, fields_or_none, field, asks_for, unstarted_words, error_words, unstarted_by, process_words, lent_words, loss_words, refusal_words, parameter_words, words, line, failure_words}
use Rattle.log_lines.specs.Events.{counted, counts, place, rates, event_words, heard_words}
use Rattle.log_lines.specs.declared.events.Heard.{Heard}
use Rattle.log_lines.specs.declared.events.Heard.TheVariants as heard
use Rattle.log_lines.specs.Laws.{LinesArePrinting}

abbrev Prints : Text → Type 0
Prints t = list_all is_printing t ≡ true

by_branch : {A : Type 0} (P : A → Type 0) (d : Bool) (x y : A) → (d ≡ true → P x) → (d ≡ false → P y) → P (cond d x y)
by_branch P true x y h k = h refl
by_branch P false x y h k = k refl

left : (x y : Bool) → (x && y) ≡ true → x ≡ true
left true y h = refl
left false y h = h

right : (x y : Bool) → (x && y) ≡ true → y ≡ true
right true y h = h
right false y h = absurd (false≢true h)

-- ---- parts

both : (a b : Text) → Prints a → Prints b → Prints (a ++ b)
both a b p q = list_all-append is_printing a b ∙ ap (λ (x : Bool). x && list_all is_printing b) p ∙ q

first : (b : ℕ) (rest : Text) → is_printing b ≡ true → Prints rest → Prints (b ∷ rest)
first b rest p q = ap (λ (x : Bool). x && list_all is_printing rest) p ∙ q

each : (f : ℕ → Text) → ((n : ℕ) → Prints (f n)) → (ns : List ℕ) → Prints (flat_map f ns)
each f h [] = refl
each f h (n ∷ ns) = both (f n) (flat_map f ns) (h n) (each f h ns)

between : (b : ℕ) → 32 ≤ b → b ≤ 126 → is_printing b ≡ true
between b l u = ap (λ (x : Bool). x && nat_le b 126) (le-leb 32 b l) ∙ le-leb b 126 u

-- ---- numbers

glyph : (d : ℕ) → d < 10 → is_printing (digit_glyph false d) ≡ true
glyph d h = ap (λ (b : Bool). is_printing (if b then 48 + d else 87 + d)) (lt-ltb d 10 h) ∙ between (48 + d) (omega arith) (omega (arith, h))

onto : (k n : ℕ) (acc : Text) → Prints acc → Prints (digits_onto k 10 false n acc)
onto zero n acc p = p
onto (suc k) n acc p = by_branch Prints (n / 10 == 0) (digit_glyph false (n % 10) ∷ acc) (digits_onto k 10 false (n / 10) (digit_glyph false (n % 10) ∷ acc)) (λ _. more) (λ _. onto k (n / 10) (digit_glyph false (n % 10) ∷ acc) more)
  where
    more : Prints (digit_glyph false (n % 10) ∷ acc)
    more = first (digit_glyph false (n % 10)) acc (glyph (n % 10) (omega arith)) p

decimals : (n : ℕ) → Prints (decimal n)
unfolding digits
decimals n = onto 64 n [] refl

times : (ms : Option ℕ) → Prints (after ms)
times None = refl
times (Some ms) = both (decimal (ms / 1000) ++ 46 ∷ decimal (ms % 1000 / 100)) (codes " s") (both (decimal (ms / 1000)) (46 ∷ decimal (ms % 1000 / 100)) (decimals (ms / 1000)) (decimals (ms % 1000 / 100))) refl

-- ---- texts

hex : (n : ℕ) → is_printing (hex_digit n) ≡ true
hex n = by_branch (λ (x : ℕ). is_printing x ≡ true) (nat_lt (n % 16) 10) (48 + n % 16) (87 + n % 16)
    (λ h. between (48 + n % 16) (omega arith) (omega arith)) (λ _. between (87 + n % 16) (omega arith) (omega arith))

bytes : (mark b : ℕ) → Prints (shown_byte mark b)
bytes mark b = by_branch Prints (is_printing b && (not (b == 92) && not (b == mark))) (b ∷ []) (92 ∷ 120 ∷ hex_digit (b / 16) ∷ hex_digit b ∷ [])
    (λ h. first b [] (left (is_printing b) (not (b == 92) && not (b == mark)) h) refl)
    (λ _. first (hex_digit (b / 16)) (hex_digit b ∷ []) (hex (b / 16)) (first (hex_digit b) [] (hex b) refl))

texts : (mark : ℕ) (text : Text) → Prints (shown mark text)
texts mark text = both (flat_map (shown_byte mark) (take 200 text)) (if nat_lt 200 (length text) then codes "..." else []) (each (shown_byte mark) (bytes mark) (take 200 text))
    (by_branch Prints (nat_lt 200 (length text)) (codes "...") [] (λ _. refl) (λ _. refl))

hosts : (host : Text) → Prints (shown_host host)
hosts host = by_branch Prints (list_any (λ b. b == 58) host) (91 ∷ shown_name host ++ 93 ∷ []) (shown_name host)
    (λ _. both (shown_name host) (93 ∷ []) (texts 32 host) refl) (λ _. texts 32 host)

addresses : (host : Text) (port : ℕ) → Prints (address host port)
addresses host port = both (shown_host host) (58 ∷ decimal port) (hosts host) (decimals port)

quotes : (text : Text) → Prints (quoted text)
quotes text = both (shown 34 text) (34 ∷ []) (texts 34 text) refl

-- ---- lines of clients

numbers : (n : Option ℕ) → Prints (numbered n)
numbers None = refl
numbers (Some n) = decimals n

names : (user database : Text) → Prints (named user database)
names user database = by_branch Prints (length user == 0) [] (32 ∷ shown_name user ++ 64 ∷ shown_name database) (λ _. refl)
    (λ _. both (shown_name user) (64 ∷ shown_name database) (texts 32 user) (texts 32 database))

clients : (c : Client) → Prints (who c)
clients c = both (numbered c.number ++ named c.user.now c.database.now ++ codes " from ") (address c.visit.host.bytes c.visit.port)
    (both (numbered c.number ++ named c.user.now c.database.now) (codes " from ") (both (numbered c.number) (named c.user.now c.database.now) (numbers c.number) (names c.user.now c.database.now)) refl)
    (addresses c.visit.host.bytes c.visit.port)

errors : (fields : List (ℕ × Text)) → Prints (state_and_text fields)
errors fields = both (shown_text (field 67 fields)) (32 ∷ shown_text (field 77 fields)) (texts 92 (field 67 fields)) (texts 92 (field 77 fields))

asked : (n : ℕ) → Prints (asks_for n)
asked n = by_branch Prints (n == SASL) _ _ (λ _. refl) (λ _. by_branch Prints (n == ASKS_CLEARTEXT) _ _ (λ _. refl) (λ _. by_branch Prints (n == ASKS_MD5) _ _ (λ _. refl)
    (λ _. both (decimal n) (codes ", which isn't served: use SCRAM, md5 or a password") (decimals n) refl)))

starts : (why : Unstarted) → Prints (unstarted_words why)
starts unstarted.NotReached = refl
starts (unstarted.Unanswerable n) = both (asks_for n) (codes " (P7)") (asked n) refl
starts unstarted.Lost = refl
starts unstarted.Unexpected = refl
starts unstarted.TimedOut = refl
starts (unstarted.Refused message) = errors (fields_or_none (note_of (drop 5 message.now)))

unstarts : (word : Text) → Prints word → (server : Server) (why : Unstarted) (ms : Option ℕ) → Prints (unstarted_by word server why ms)
unstarts word p server why ms = both (word ++ after ms ++ codes ": server " ++ address server.host.now server.port) (unstarted_words why)
    (both (word ++ after ms ++ codes ": server ") (address server.host.now server.port)
    (both (word ++ after ms) (codes ": server ") (both word (after ms) p (times ms)) refl) (addresses server.host.now server.port)) (starts why)

said : (message : Text) → Prints (error_words message)
said message = errors (fields_or_none (note_of (drop 5 message)))

processes : (process : Option ℕ) → Prints (process_words process)
processes None = refl
processes (Some process) = decimals process

lends : (number : ℕ) (server : Server) (process : Option ℕ) → Prints (lent_words number server process)
lends number server process = both (decimal number ++ codes " to server " ++ address server.host.now server.port) (process_words process)
    (both (decimal number ++ codes " to server ") (address server.host.now server.port) (both (decimal number) (codes " to server ") (decimals number) refl) (addresses server.host.now server.port)) (processes process)

losses : (why : Loss) → Prints (loss_words why)
losses loss.Ended = refl
losses (loss.Said message) = said message.now
losses loss.InBlock = refl
losses loss.Unanswered = refl
losses loss.Foreign = refl
losses loss.NotReset = refl
losses loss.Cancelled = refl

failures : (why : LoginFailure) → Prints (failure_words why)
failures failure.NoUser = refl
failures failure.Digest = refl
failures failure.Rounds = refl
failures failure.NoSecret = refl
failures failure.NoAdmin = refl
failures failure.WrongPassword = refl

refusals : (r : Refusal) → Prints (refusal_words r)
refusals TooManyClients = refl
refusals UnsupportedProtocol = refl
refusals MalformedClientMessage = refl
refusals UnsupportedParameter = refl
refusals WaitedTooLong = refl
refusals ServerFailed = refl
refusals ServerNotReached = refl
refusals ShuttingDown = refl
refusals OutOfMemory = refl
refusals ClientMessageTooLong = refl
refusals MalformedServerMessage = refl
refusals LastDecision = refl

notes : (logged : Note) (ms : Option ℕ) → Prints (words logged ms)
notes note.LoggedIn ms = refl
notes note.Closed ms = times ms
notes note.Late ms = both (after ms) (codes ": not through its login in client_login_timeout") (times ms) refl
notes (note.Refused r) ms = both (after ms ++ codes ": ") (refusal_words r) (both (after ms) (codes ": ") (times ms) refl) (refusals r)
notes (note.UnsupportedParameter name) ms = both (after ms ++ codes ": ") (parameter_words name.now) (both (after ms) (codes ": ") (times ms) refl)
    (both (quoted name.now) (codes " (P4)") (quotes name.now) refl)
notes (note.LoginFailed why) ms = both (after ms ++ codes ": password authentication failed (28P01): ") (failure_words why)
    (both (after ms) (codes ": password authentication failed (28P01): ") (times ms) refl) (failures why)
notes note.NoDatabase ms = both (after ms) (codes ": database does not exist (3D000)") (times ms) refl
notes (note.Unstarted server why) ms = unstarts (codes " refused") refl server why ms
notes (note.AsksAgain server message) ms = unstarts (codes " asks again") refl server (unstarted.Refused message) ms
notes (note.Lent number server process) ms = lends number server process
notes (note.LinkLost number why) ms = both (decimal number ++ codes " closed: ") (loss_words why) (both (decimal number) (codes " closed: ") (decimals number) refl) (losses why)
notes (note.Cancels number) ms = both (decimal number) (codes "'s statement") (decimals number) refl
notes note.CancelsNobody ms = refl
notes note.Paused ms = refl
notes note.Resumed ms = refl
notes note.Reconnecting ms = refl
notes note.ShuttingDown ms = refl

pub lines : (c : Client) (logged : Note) (ms : Option ℕ) → Prints (line c logged ms)
lines c logged ms = both (who c) (words logged ms) (clients c) (notes logged ms)

-- ---- lines of the program

count : (n : ℕ) (what : Text) → Prints what → Prints (counted (n, what))
count n what p = both (decimal n) what (decimals n) p

each_count : (cs : List (ℕ × Text)) → list_all (λ c. list_all is_printing c.1) cs ≡ true → Prints (flat_map counted cs)
each_count [] h = refl
each_count (c ∷ cs) h = both (counted c) (flat_map counted cs)
    (count c.0 c.1 (left (list_all is_printing c.1) (list_all (λ d. list_all is_printing d.1) cs) h))
    (each_count cs (right (list_all is_printing c.1) (list_all (λ d. list_all is_printing d.1) cs) h))

ends : (t : Totals) → Prints (flat_map counted (counts t))
ends t = each_count (counts t) refl

goes_through : (r : Rates) → Prints (flat_map counted (rates r))
goes_through r = each_count (rates r) refl

places : (host : Text) (port : ℕ) → Prints (place host port)
places host port = both (shown_name host) (32 ∷ decimal port) (texts 32 host) (decimals port)

hears : (h : Heard) → Prints (heard_words h)
hears heard.Ended = refl
hears (heard.Said message) = said message.now
hears heard.Spoke = refl

event_lines : (e : Event) → Prints (event_words e)
event_lines (event.Listening host port) = places host.now port
event_lines (event.NotListening folder port why) = both (place folder.now port) (codes ": " ++ shown_text why.now) (places folder.now port) (texts 92 why.now)
event_lines (event.ListeningForMetrics host port) = addresses host.now port
event_lines (event.NotListeningForMetrics host port why) = both (address host.now port) (codes ": " ++ shown_text why.now) (addresses host.now port) (texts 92 why.now)
event_lines (event.Unreached host port why) = both (address host.now port) (codes " not reached: " ++ shown_text why.now) (addresses host.now port) (texts 92 why.now)
event_lines (event.NoFile host port why) = both (address host.now port) (codes ": " ++ shown_text why.now) (addresses host.now port) (texts 92 why.now)
event_lines event.NoClock = refl
event_lines event.Reloaded = refl
event_lines (event.NotReloaded fault) = texts 92 fault.now
event_lines (event.AsAtStart what) = texts 92 what.now
event_lines (event.NoPasswords n first) = both (counted (n, codes " secrets of the user file accept no password, the first that of ")) (shown_name first.now)
    (count n (codes " secrets of the user file accept no password, the first that of ") refl) (texts 32 first.now)
event_lines (event.Wanting n) = count n (codes " connections closed for want of a thread, a poll, a file or memory") refl
event_lines (event.Late n) = count n (codes " connections closed that didn't say who they are in client_login_timeout") refl
event_lines (event.Dropped n) = count n (codes " lines of the log were dropped") refl
event_lines (event.IdleClosed n h) = both (decimal n ++ codes " closed: ") (heard_words h) (both (decimal n) (codes " closed: ") (decimals n) refl) (hears h)
event_lines (event.Stats r) = goes_through r
event_lines (event.Ended t) = ends t

pub printing : LinesArePrinting
printing = record { notes = lines; events = event_lines }
