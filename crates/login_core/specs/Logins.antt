-- A login under way, and what its calls answer.
use Rattle.std.specs.Prelude.{◌≡◌, ◌⊎◌, ℕ, ◌+◌, ◌≤◌, ◌<◌, List, [], ◌∷◌, ◌++◌, length, Option, Some, None, Result, Ok, Err, Bool, true, false, ◌||◌, IsOk, is_some, option_map, Box, box_value}
use Rattle.std.specs.Arc.{arc_value}
use Rattle.std.specs.declared.sync.Arc.{Arc}
use Rattle.frame_view.specs.Frames.{Start}
use Rattle.message_view.specs.declared.KeyWord.{KeyWord}
use Rattle.message_view.specs.declared.refusal.Refusal.{Refusal}
use Rattle.message_view.specs.declared.refusal.Refusal.TheVariants.{OutOfMemory}
use Rattle.message_view.specs.Reading.{startup_of}
use Rattle.ini_config.specs.declared.option_values.AuthType.{AuthType}
use Rattle.ini_config.specs.declared.option_values.AuthType.TheVariants.{Trust, Plain, Md5, ScramSha256}
use Rattle.ini_config.specs.declared.option_values.Settings.{Settings}
use Rattle.ini_config.specs.declared.database_rows.DbRow.{DbRow}
use Rattle.user_file.specs.declared.user_table.UserRow.{UserRow}
use Rattle.user_file.specs.Secrets.{IsRevealedOf}
use Rattle.user_file.specs.Users.{UsersOf}
use Rattle.scram.specs.declared.message.Message.{Message}
use Rattle.scram.specs.Short.{text_of}
use Rattle.session_values.specs.State.{StartKeyOf}
use Rattle.login_core.specs.declared.steps.Question.{Question}
use Rattle.login_core.specs.declared.steps.Question.TheVariants as question
use Rattle.login_core.specs.declared.steps.Authenticated.{Authenticated}
use Rattle.login_core.specs.declared.steps.Authenticated.TheVariants as authenticated
use Rattle.login_core.specs.declared.steps.LoginRefusal.{LoginRefusal}
use Rattle.login_core.specs.declared.steps.LoginRefusal.TheVariants as failure
use Rattle.login_core.specs.declared.steps.LoginStep.{LoginStep}
use Rattle.login_core.specs.declared.steps.LoginStep.TheVariants as step
use Rattle.login_core.specs.declared.dialogue.Rules.{Rules}
use Rattle.login_core.specs.declared.dialogue.Verdict.{Verdict}
use Rattle.login_core.specs.declared.dialogue.Verdict.TheVariants as verdict
use Rattle.login_core.specs.declared.dialogue.Asking.{Asking as TheAsking}
use Rattle.login_core.specs.declared.dialogue.Asking.TheVariants as asking
use Rattle.login_core.specs.declared.scram_dialogue.Proved.{Proved}
use Rattle.login_core.specs.declared.dialogue.Place.{Place}
use Rattle.login_core.specs.declared.dialogue.Place.TheVariants as place
use Rattle.param_track.specs.StartKeys.{Text}
use Rattle.login_core.specs.Talk.{Cut, says, follow, talk}
use Rattle.login_core.specs.Talk.Cut.{Whole, Need, Bad}
use Rattle.login_core.specs.Talk.Reaction.{Goes, Passes, Stops}
use Rattle.login_core.specs.Talk.End.{Passed, Stopped}
use Rattle.login_core.specs.Dialogue.{Rows, LoginRow, row_in, Reacts, Dialogue, Packet, First, Reason, Refused, Failed, Left, Cancelling, ToLink, ToConsole, Asking, ForPassword, ForFirst, ForLast, Stage, AtFirst, Asked, packet, react, dialogue_from, login_among, is_for_console, key_of, asked, has_verifier, to_answer, no_encryption, asks_cleartext, asks_scram, wrong_password, no_database, ok, if_any, wrong}

-- what it waits for: a packet, the word to go on, or nothing any more
pub data Awaiting : Type 0 where
  AwaitsPacket : Stage → Awaiting
  Arriving : StartKeyOf → Awaiting
  Over : Awaiting

pub record LoginView : Type 0 where
  pub settings : Settings
  pub users : UsersOf
  pub word : KeyWord
  pub awaiting : Awaiting
  -- the bytes of the packet that it waits for
  pub held : List ℕ
  -- what its client revealed of its secret, once it was let in
  pub revealed : Option Text

abbrev pub revealing_view : Settings → UsersOf → KeyWord → Awaiting → List ℕ → Option Text → LoginView
revealing_view settings users word awaiting held revealed =
    record { settings = settings; users = users; word = word; awaiting = awaiting; held = held; revealed = revealed }

-- of which nothing was revealed
abbrev pub login_view : Settings → UsersOf → KeyWord → Awaiting → List ℕ → LoginView
login_view settings users word awaiting held = revealing_view settings users word awaiting held None

abbrev pub rows_of : LoginView → Rows
rows_of v = row_in v.settings v.users

abbrev pub with_held : LoginView → List ℕ → LoginView
with_held v held = revealing_view v.settings v.users v.word v.awaiting held v.revealed

-- a client has arrived and is to go on, by a key of the console's
abbrev pub arrives_at_console : Rows → Awaiting → Bool
arrives_at_console rows (Arriving key) = is_for_console (rows key.row key.user) key
arrives_at_console rows _ = false

-- ---- what is still said

-- when these bytes come
abbrev pub goes_from : Rows → KeyWord → Awaiting → List ℕ → List ℕ → Dialogue
goes_from rows word (AwaitsPacket stage) held more = dialogue_from rows word stage (held ++ more)
goes_from rows word (Arriving key) held more = follow more (λ s. talk packet (react rows word) 2 s more) (asked rows word key)
goes_from rows word Over held more = record { pieces = []; ended = Stopped Left }

abbrev pub goes_on : LoginView → List ℕ → Dialogue
goes_on v more = goes_from (rows_of v) v.word v.awaiting v.held more

-- A login tells the bytes that it took and the pieces that it gave: whatever comes, the whole login says
-- these pieces and what is still said.
abbrev pub Tells : LoginView → List ℕ → List (List ℕ) → Type 0
Tells v taken given = (more : List ℕ) → login_among (rows_of v) v.word (taken ++ more) ≡ says given (goes_on v more)

-- ---- what is held

-- it isn't more than its packet, and there is room for what it lacks
abbrev pub FitsCut : Cut Packet Reason → ℕ → Type 0
FitsCut (Whole p rest) here = rest ≡ []
FitsCut (Need missing) here = here + missing ≤ 10001
FitsCut (Bad reason) here = Unit {0}

abbrev pub Fits : Awaiting → List ℕ → Type 0
Fits (AwaitsPacket stage) held = FitsCut (packet stage held) (length held)
Fits (Arriving key) held = held ≡ []
Fits Over held = held ≡ []

-- the bytes that are known to be missing
abbrev pub missing_of : Cut Packet Reason → ℕ
missing_of (Whole p rest) = 0
missing_of (Need missing) = missing
missing_of (Bad reason) = 0

abbrev pub missing : Awaiting → List ℕ → ℕ
missing (AwaitsPacket stage) held = missing_of (packet stage held)
missing (Arriving key) held = 0
missing Over held = 0

-- ---- what a call answers

abbrev pub question_bytes : Question → List ℕ
question_bytes question.Encryption = no_encryption
question_bytes question.Cleartext = asks_cleartext
question_bytes (question.Md5 frame) = frame
question_bytes question.Scram = asks_scram
question_bytes (question.Challenge frame) = text_of (box_value frame)

-- the server's proof, where there is one
abbrev pub proof_bytes : {Z : Type 0} → Option (Box Message Z) → List ℕ
proof_bytes None = []
proof_bytes (Some frame) = text_of (box_value frame)

-- what a client is told that is let in
abbrev pub authenticated_bytes : Authenticated → List ℕ
authenticated_bytes authenticated.Nothing = []
authenticated_bytes authenticated.Ok = ok
authenticated_bytes (authenticated.WithProof frames) = text_of (box_value frames)

abbrev pub failure_bytes : LoginRefusal → List ℕ
failure_bytes failure.WrongPassword = wrong_password
failure_bytes failure.NoDatabase = no_database

-- what is said at a step, before what is said from there on
abbrev pub after : LoginStep → List ℕ → Dialogue → Dialogue
after step.More more rest = rest
after (step.Arrived key) more rest = rest
after (step.Ask q) more rest = says (question_bytes q ∷ []) rest
after (step.Passed key told) more rest = record { pieces = authenticated_bytes told ∷ []; ended = Passed (ToLink (arc_value key)) more }
after (step.Console told) more rest = record { pieces = if_any (authenticated_bytes told); ended = Passed ToConsole more }
after (step.Refused refusal) more rest = record { pieces = []; ended = Stopped (Refused refusal) }
after (step.Failed f) more rest = record { pieces = failure_bytes f ∷ []; ended = Stopped Failed }
after (step.Cancel pid secret) more rest = record { pieces = []; ended = Stopped (Cancelling (record { pid = pid; secret = secret })) }
after step.Left more rest = record { pieces = []; ended = Stopped Left }

-- a start message that gives a key
abbrev pub IsKeyed : Rows → Cut Packet Reason → Type 0
IsKeyed rows (Whole (First (Start text)) rest) = IsOk (key_of rows (startup_of text))
IsKeyed rows _ = ⊥

-- an answer that isn't judged without memory: a password by a verifier, and SCRAM's messages
abbrev pub wants_memory : AuthType → Option UserRow → Bool
wants_memory Plain user = has_verifier user
wants_memory Trust user = false
wants_memory Md5 user = false
wants_memory ScramSha256 user = false

-- whoever logs in, its links are this row's user's
abbrev pub names_user : Option DbRow → Bool
names_user None = false
names_user (Some row) = is_some row.user

abbrev pub named_key : Option DbRow → StartKeyOf → Option StartKeyOf
named_key None key = None
named_key (Some row) key = option_map (λ user. record key { user = user }) row.user

-- and a link's key of a user whom the client's isn't
abbrev pub TakesMemory : LoginRow → Asking → Type 0
TakesMemory row ForPassword = (wants_memory row.auth row.user || names_user row.database) ≡ true
TakesMemory row ForFirst = Unit {0}
TakesMemory row (ForLast first) = Unit {0}

abbrev pub IsWhole : Cut Packet Reason → Type 0
IsWhole (Whole p rest) = Unit {0}
IsWhole (Need missing) = ⊥
IsWhole (Bad reason) = ⊥

-- where a growth may be refused: a key is made, or such an answer is judged, or the link's key is made
abbrev pub NeedsMemory : Rows → Awaiting → List ℕ → Type 0
NeedsMemory rows (AwaitsPacket (AtFirst tls gss)) held = IsKeyed rows (packet (AtFirst tls gss) held)
NeedsMemory rows (AwaitsPacket (Asked asking key)) held = TakesMemory (rows key.row key.user) asking × IsWhole (packet (Asked asking key) held)
NeedsMemory rows (Arriving key) held = names_user (rows key.row key.user).database ≡ true
NeedsMemory rows Over held = ⊥

-- what it says is said; or a growth was refused where memory was needed
abbrev pub OrNoMemory : LoginStep → Type 0 → Type 0 → Type 0
OrNoMemory (step.Refused refusal) said needed = said ⊎ ((refusal ≡ OutOfMemory) × needed)
OrNoMemory _ said needed = said

-- after More and Ask bytes are known to be missing; the key that arrived is waited with; the others are ends
abbrev pub LeadsTo : LoginStep → Awaiting → List ℕ → Type 0
LeadsTo step.More awaiting held = 0 < missing awaiting held
LeadsTo (step.Ask q) awaiting held = 0 < missing awaiting held
LeadsTo (step.Arrived key) awaiting held = awaiting ≡ Arriving (arc_value key)
LeadsTo (step.Passed key told) awaiting held = awaiting ≡ Over
LeadsTo (step.Console told) awaiting held = awaiting ≡ Over
LeadsTo (step.Refused refusal) awaiting held = awaiting ≡ Over
LeadsTo (step.Failed f) awaiting held = awaiting ≡ Over
LeadsTo (step.Cancel pid secret) awaiting held = awaiting ≡ Over
LeadsTo step.Left awaiting held = awaiting ≡ Over

-- before a client has arrived it is asked about encryption alone, and neither passes nor fails
abbrev pub IsBeforeArrival : LoginStep → Type 0
IsBeforeArrival step.More = Unit {0}
IsBeforeArrival (step.Ask question.Encryption) = Unit {0}
IsBeforeArrival (step.Arrived key) = Unit {0}
IsBeforeArrival (step.Refused refusal) = Unit {0}
IsBeforeArrival (step.Cancel pid secret) = Unit {0}
IsBeforeArrival step.Left = Unit {0}
IsBeforeArrival _ = ⊥

-- a client that has arrived doesn't arrive again
abbrev pub IsAfterArrival : LoginStep → Type 0
IsAfterArrival (step.Arrived key) = ⊥
IsAfterArrival _ = Unit {0}

-- each client that is asked for its password, let in or told no arrives before that, and once
abbrev pub ArrivesOnce : Awaiting → LoginStep → Type 0
ArrivesOnce (AwaitsPacket (AtFirst tls gss)) s = IsBeforeArrival s
ArrivesOnce (AwaitsPacket (Asked asking key)) s = IsAfterArrival s
ArrivesOnce (Arriving key) s = IsAfterArrival s
ArrivesOnce Over s = IsAfterArrival s

-- these bytes were taken, and this was answered
pub record StepMeans (old : LoginView) (bytes : List ℕ) (s : LoginStep) (new : LoginView) : Type 0 where
  pub said : OrNoMemory s ((more : List ℕ) → goes_on old (bytes ++ more) ≡ after s more (goes_on new more)) (NeedsMemory (rows_of old) old.awaiting (old.held ++ bytes))
  pub leads : LeadsTo s new.awaiting new.held
  pub settings : new.settings ≡ old.settings
  pub users : new.users ≡ old.users
  pub word : new.word ≡ old.word

-- ---- what is revealed

abbrev pub RevealsOf : Option UserRow → Option Text → Type 0
RevealsOf (Some user) revealed = IsRevealedOf user.secret revealed
RevealsOf None revealed = revealed ≡ None

-- what a client reveals that proves to know its secret; who isn't asked may reveal nothing
abbrev pub RevealsUnder : AuthType → Option UserRow → Option Text → Type 0
RevealsUnder Trust user revealed = (revealed ≡ None) ⊎ RevealsOf user revealed
RevealsUnder Plain user revealed = RevealsOf user revealed
RevealsUnder Md5 user revealed = RevealsOf user revealed
RevealsUnder ScramSha256 user revealed = RevealsOf user revealed

abbrev pub IsRevealed : LoginRow → Option Text → Type 0
IsRevealed row revealed = RevealsUnder row.auth row.user revealed

-- to its link, which may be another user's: to that one nothing
abbrev pub RevealsTo : (others : Bool) → AuthType → Option UserRow → Option Text → Type 0
RevealsTo true auth user revealed = revealed ≡ None
RevealsTo false auth user revealed = RevealsUnder auth user revealed

abbrev pub IsRevealedTo : LoginRow → Option Text → Type 0
IsRevealedTo row revealed = RevealsTo (names_user row.database) row.auth row.user revealed

-- at a step by which it is let in
abbrev pub Reveals : Rows → LoginStep → Option Text → Type 0
Reveals rows (step.Passed key told) revealed = IsRevealedTo (rows (arc_value key).row (arc_value key).user) revealed
Reveals rows _ revealed = Unit {0}

-- ---- the parts of a call

abbrev pub rows_under : Rules → Rows
rows_under rules = row_in (arc_value rules.settings) (arc_value rules.users)

abbrev pub asking_of : TheAsking → Asking
asking_of asking.Password = ForPassword
asking_of asking.First = ForFirst
asking_of (asking.Last first) = ForLast first

abbrev pub awaiting_of : Place → Awaiting
awaiting_of (place.First tls gss) = AwaitsPacket (AtFirst tls gss)
awaiting_of (place.Asked asking key) = AwaitsPacket (Asked (asking_of asking) (arc_value key))
awaiting_of (place.Arriving key) = Arriving (arc_value key)
awaiting_of (place.Over revealed) = Over

abbrev pub revealed_of : Place → Option Text
revealed_of (place.Over revealed) = revealed
revealed_of _ = None

-- the key that a start message gives, or its refusal, or that of a growth in the stead of the key
abbrev pub Begun : {Z : Type 0} → Result (Arc StartKeyOf Z) Refusal → Result StartKeyOf Refusal → Type 0
Begun (Ok key) wanted = wanted ≡ Ok (arc_value key)
Begun (Err refusal) wanted = (wanted ≡ Err refusal) ⊎ ((refusal ≡ OutOfMemory) × IsOk wanted)

-- the same of a step and the place that it leads to
abbrev pub StartMeans : Result StartKeyOf Refusal → LoginStep → Awaiting → Type 0
StartMeans wanted (step.Arrived key) (Arriving other) = (wanted ≡ Ok other) × (other ≡ arc_value key)
StartMeans wanted (step.Refused refusal) Over = (wanted ≡ Err refusal) ⊎ ((refusal ≡ OutOfMemory) × IsOk wanted)
StartMeans wanted _ _ = ⊥

abbrev pub verdict_of : (proof : List ℕ) → Verdict → StartKeyOf → Reacts
verdict_of proof verdict.ToLink key = Passes ((proof ++ ok) ∷ []) (ToLink key)
verdict_of proof verdict.ToConsole key = Passes (if_any proof) ToConsole
verdict_of proof verdict.Wrong key = wrong
verdict_of proof verdict.Nowhere key = Stops (no_database ∷ []) Failed

-- a step that says what the reaction says, and is the last
abbrev pub Decides : LoginStep → Reacts → Type 0
Decides (step.Passed key told) reaction = reaction ≡ Passes (authenticated_bytes told ∷ []) (ToLink (arc_value key))
Decides (step.Console told) reaction = reaction ≡ Passes (if_any (authenticated_bytes told)) ToConsole
Decides (step.Failed f) reaction = reaction ≡ Stops (failure_bytes f ∷ []) Failed
Decides _ reaction = ⊥

-- the same of an answer to a question, and of the place that it leads to; or a growth was refused, where memory was needed
abbrev pub IsReaction : Type 0 → Reacts → LoginStep → Awaiting → Type 0
IsReaction needed reaction (step.Ask q) to = (s : Stage) × (reaction ≡ Goes (question_bytes q ∷ []) s) × (to ≡ AwaitsPacket s)
IsReaction needed reaction (step.Refused refusal) to = ((reaction ≡ Stops [] (Refused refusal)) ⊎ ((refusal ≡ OutOfMemory) × needed)) × (to ≡ Over)
IsReaction needed reaction s to = Decides s reaction × (to ≡ Over)

abbrev pub Answers : Rows → KeyWord → StartKeyOf → Asking → List ℕ → (LoginStep × Place) → Type 0
Answers rows word key asking body r = IsReaction (TakesMemory (rows key.row key.user) asking) (to_answer (rows key.row key.user) word key asking body) r.0 (awaiting_of r.1)

abbrev pub told_of : Proved → List ℕ
told_of p = text_of p.told

-- who goes to a link
abbrev pub IfToLink : Verdict → Type 0 → Type 0
IfToLink verdict.ToLink P = P
IfToLink _ P = Unit {0}

-- what is held after a step
abbrev pub left_after : LoginStep → List ℕ → List ℕ
left_after step.More held = held
left_after _ held = []

abbrev pub IsMore : Bool → LoginStep → Type 0
IsMore b step.More = b ≡ true
IsMore b _ = b ≡ false

-- a step from what is held, and the place that it leads to
pub record StepIs (rows : Rows) (word : KeyWord) (from : Awaiting) (held : List ℕ) (s : LoginStep) (to : Awaiting) (left : List ℕ) : Type 0 where
  pub said : OrNoMemory s ((more : List ℕ) → goes_from rows word from held more ≡ after s more (goes_from rows word to left more)) (NeedsMemory rows from held)
  pub fits : Fits to left
  pub leads : LeadsTo s to left
