-- The login: what is said to a client's first bytes, and what it leads to (PostgreSQL manual,
-- "Message Flow", "Start-up", "SASL Authentication" and "SSL Session Encryption"; RFC 1321 for the MD5 answer, RFC 5802 for SCRAM).
use Rattle.std.specs.Prelude.{ℕ, List, [], ◌∷◌, ◌++◌, Option, Some, None, Result, Ok, Err, Bool, true, false, ◌==◌, ◌&&◌, ◌||◌, if◌then◌else◌, bytes_eq, codes, is_some, unwrap_or}
use Rattle.std.specs.List.{list_any}
use Rattle.frame_view.specs.declared.FrameError.{FrameError}
use Rattle.frame_view.specs.declared.FrameError.TheVariants.{UnknownType, TooShort, TooLong, UnknownCode}
use Rattle.frame_view.specs.declared.Side.TheVariants.{Client}
use Rattle.frame_view.specs.declared.client.TheConstants.{PASSWORD_MESSAGE, TERMINATE}
use Rattle.frame_view.specs.Frames.{Front, AFrame, Lacks, Faulty, front, FirstOf, Start, Cancels, AsksTls, AsksGss, FirstFront, AFirst, LacksFirst, FaultyFirst, first_front, spelling}
use Rattle.message_view.specs.declared.KeyWord.{KeyWord}
use Rattle.message_view.specs.declared.ViewError.{ViewError}
use Rattle.message_view.specs.declared.views.KeyView.{KeyView}
use Rattle.message_view.specs.declared.refusal.Refusal.{Refusal}
use Rattle.message_view.specs.declared.refusal.Refusal.TheVariants.{UnsupportedProtocol, MalformedClientMessage, UnsupportedParameter, OutOfMemory}
use Rattle.message_view.specs.Bodies.{int32}
use Rattle.message_view.specs.Messages.{authentication, error_response}
use Rattle.message_view.specs.Reading.{startup_of, password_of}
use Rattle.ini_config.specs.declared.database_rows.DbRow.{DbRow}
use Rattle.ini_config.specs.declared.option_values.AuthType.{AuthType}
use Rattle.ini_config.specs.declared.option_values.AuthType.TheVariants.{Trust, Plain, Md5, ScramSha256}
use Rattle.ini_config.specs.declared.option_values.Settings.{Settings}
use Rattle.ini_config.specs.Tables.{row_for}
use Rattle.user_file.specs.declared.user_table.UserRow.{UserRow}
use Rattle.user_file.specs.Secrets.{accepts_plain, accepts_md5, is_verifier}
use Rattle.user_file.specs.Salts.{keys_for, salt_for, salting_for}
use Rattle.user_file.specs.declared.salts.Salting.{Salting}
use Rattle.user_file.specs.Users.{UsersOf, user_named}
use Rattle.scram.specs.declared.keys.ServerKeys.{ServerKeys}
use Rattle.scram.specs.Keys.{auth_message, revealed}
use Rattle.scram.specs.Messages.{FirstOf as FirstText, LastOf as LastText, challenge, final, first_of, last_of, nonce_of}
use Rattle.scram.specs.Wire.{initial_response_of}
use Rattle.session_values.specs.State.{StartKeyOf}
use Rattle.param_track.specs.declared.StartKeyError.{StartKeyError}
use Rattle.param_track.specs.declared.StartKeyError.TheVariants.{NoUser, UnsupportedParameter as Unsupported, Replication, Memory}
use Rattle.param_track.specs.StartKeys.{Text, Pair, Names, names_of, database_in, user_in, start_key}
use Rattle.login_core.specs.Talk.{Cut, Reaction, Said, talk}
use Rattle.login_core.specs.Talk.Cut.{Whole, Need, Bad}
use Rattle.login_core.specs.Talk.Reaction.{Goes, Passes, Stops}

-- ---- who logs in

-- what the settings and the user file say of a client: its database and its user may be missing
pub record LoginRow : Type 0 where
  pub auth : AuthType
  pub names : Names
  pub admins : List Text
  pub lookers : List Text
  pub database : Option DbRow
  pub user : Option UserRow
  -- the key of the salts that names have
  pub salts : Text

-- the login row of a database's and a user's name
abbrev pub Rows : Type 0
Rows = Text → Text → LoginRow

unfoldable pub row_in : Settings → UsersOf → Rows
row_in s users database user = record {
  auth = s.auth_type;
  names = names_of s;
  admins = s.admin_users;
  lookers = s.stats_users;
  database = row_for database s.rows;
  user = user_named user users.rows;
  salts = users.salts;
}

-- ---- the dialogue's parts

-- why it stopped: by a refusal, by an answer that a server would give too, or without a byte
pub data Reason : Type 0 where
  Refused : Refusal → Reason
  Failed : Reason
  Left : Reason
  -- it asked to cancel what the client of this key is at
  Cancelling : KeyView → Reason

-- where it leads
pub data Way : Type 0 where
  ToLink : StartKeyOf → Way
  ToConsole : Way

-- what a client is asked for: its password, or its digest; the first message of SCRAM; the last one, where this was the first
pub data Asking : Type 0 where
  ForPassword : Asking
  ForFirst : Asking
  ForLast : (first : Text) → Asking

-- before its start (whether SSLRequest and GSSENCRequest came), or asked
pub data Stage : Type 0 where
  AtFirst : (tls gss : Bool) → Stage
  Asked : Asking → StartKeyOf → Stage

pub data Packet : Type 0 where
  First : FirstOf → Packet
  Message : ℕ → List ℕ → Packet

abbrev pub Reacts : Type 0
Reacts = Reaction Stage Way Reason

abbrev pub Dialogue : Type 0
Dialogue = Said Way Reason

-- ---- packets

abbrev pub refusal_of : FrameError → Refusal
refusal_of UnknownCode = UnsupportedProtocol
refusal_of UnknownType = MalformedClientMessage
refusal_of TooShort = MalformedClientMessage
refusal_of TooLong = MalformedClientMessage

abbrev pub of_first : FirstFront → Cut Packet Reason
of_first (AFirst p rest) = Whole (First p) rest
of_first (LacksFirst n) = Need n
of_first (FaultyFirst fault) = Bad (Refused (refusal_of fault))

abbrev pub of_front : Front → Cut Packet Reason
of_front (AFrame kind body rest) = Whole (Message kind body) rest
of_front (Lacks n) = Need n
of_front (Faulty fault) = Bad (Refused MalformedClientMessage)

-- the greatest length of a message in the login
abbrev pub longest_message : ℕ
longest_message = 10000

abbrev pub packet : Stage → List ℕ → Cut Packet Reason
packet (AtFirst tls gss) bytes = of_first (first_front bytes)
packet (Asked asking key) bytes = of_front (front Client longest_message bytes)

-- ---- what the client is given

-- the answer to a request for encryption: `N`
abbrev pub no_encryption : List ℕ
no_encryption = codes "N"

abbrev pub ok : List ℕ
ok = spelling (authentication 0 [])

abbrev pub asks_cleartext : List ℕ
asks_cleartext = spelling (authentication 3 [])

abbrev pub asks_md5 : List ℕ → List ℕ
asks_md5 salt = spelling (authentication 5 salt)

-- SCRAM-SHA-256 is all that is offered
abbrev pub asks_scram : List ℕ
asks_scram = spelling (authentication 10 (codes "SCRAM-SHA-256" ++ 0 ∷ 0 ∷ []))

abbrev pub challenges : Text → List ℕ
challenges text = spelling (authentication 11 text)

abbrev pub proves : Text → List ℕ
proves text = spelling (authentication 12 text)

abbrev pub wrong_password : List ℕ
wrong_password = spelling (error_response (codes "FATAL") (codes "28P01") (codes "password authentication failed"))

abbrev pub no_database : List ℕ
no_database = spelling (error_response (codes "FATAL") (codes "3D000") (codes "database does not exist"))

-- ---- reactions

abbrev pub malformed : Reacts
malformed = Stops [] (Refused MalformedClientMessage)

abbrev pub wrong : Reacts
wrong = Stops (wrong_password ∷ []) Failed

-- a right password, or none wanted; an unknown user has no right answer
abbrev pub is_right_for : AuthType → Option UserRow → List ℕ → Text → Text → Bool
is_right_for auth None salt user given = false
is_right_for Trust (Some row) salt user given = true
is_right_for Plain (Some row) salt user given = accepts_plain row.secret user given
is_right_for Md5 (Some row) salt user given = accepts_md5 row.secret user salt given
is_right_for ScramSha256 (Some row) salt user given = false

abbrev pub is_right : LoginRow → KeyWord → StartKeyOf → Text → Bool
is_right row word key given = is_right_for row.auth row.user word.salt key.user given

-- the console's users: the settings' admin users, and beside them those who may look there and do nothing
abbrev pub enters_console : LoginRow → Text → Bool
enters_console row user = list_any (λ n. bytes_eq n user) row.admins || list_any (λ n. bytes_eq n user) row.lookers

-- the client of this key names the console, and a user of it, whether it proves to be that one or not
abbrev pub is_for_console : LoginRow → StartKeyOf → Bool
is_for_console row key = bytes_eq key.row (codes "pgbouncer") && enters_console row key.user

-- the key of the client's link: where its database's row names a user, that one's
abbrev pub link_key : Option DbRow → StartKeyOf → StartKeyOf
link_key None key = key
link_key (Some row) key = record key { user = unwrap_or row.user key.user }

-- what it is told that it is let in: behind the server's own proof, where there is one
abbrev pub to_database : (proof : List ℕ) → Option DbRow → StartKeyOf → Reacts
to_database proof None key = Stops (no_database ∷ []) Failed
to_database proof (Some row) key = Passes ((proof ++ ok) ∷ []) (ToLink (link_key (Some row) key))

abbrev pub if_any : List ℕ → List (List ℕ)
if_any [] = []
if_any (b ∷ bs) = (b ∷ bs) ∷ []

abbrev pub to_console : (proof : List ℕ) → Bool → Reacts
to_console proof true = Passes (if_any proof) ToConsole
to_console proof false = wrong

abbrev pub admitted : (proof : List ℕ) → LoginRow → StartKeyOf → Reacts
admitted proof row key = if bytes_eq key.row (codes "pgbouncer") then to_console proof (enters_console row key.user) else to_database proof row.database key

abbrev pub judged : LoginRow → KeyWord → StartKeyOf → Text → Reacts
judged row word key given = if is_right row word key given then admitted [] row key else wrong

-- ---- SCRAM

-- how the user's password is salted, be there such a user or not
abbrev pub name_salt : LoginRow → StartKeyOf → List ℕ
name_salt row key = salt_for row.salts key.user

abbrev pub salting : LoginRow → StartKeyOf → Salting
salting row key = salting_for row.user (name_salt row key)

-- the keys that its proof has to fit
abbrev pub keys : LoginRow → StartKeyOf → Option ServerKeys
keys row key = keys_for row.user (name_salt row key)

-- the server's part of the nonce: a key word is used once
abbrev pub own_nonce : KeyWord → Text
own_nonce word = nonce_of (int32 word.pid ++ int32 word.secret ++ word.salt)

abbrev pub joint_nonce : KeyWord → FirstText → Text
joint_nonce word first = first.nonce ++ own_nonce word

abbrev pub challenge_to : LoginRow → KeyWord → StartKeyOf → FirstText → Text
challenge_to row word key first = challenge (joint_nonce word first) (salting row key).salt (salting row key).rounds

abbrev pub to_first_message : LoginRow → KeyWord → StartKeyOf → Text → Option FirstText → Reacts
to_first_message row word key text None = malformed
to_first_message row word key text (Some first) = Goes (challenges (challenge_to row word key first) ∷ []) (Asked (ForLast text) key)

abbrev pub to_initial : LoginRow → KeyWord → StartKeyOf → Option Text → Reacts
to_initial row word key None = malformed
to_initial row word key (Some text) = to_first_message row word key text (first_of text)

-- a right proof is answered by the server's
abbrev pub proof_by : Option ServerKeys → (auth : Text) → (given : List ℕ) → Option (List ℕ)
proof_by None auth given = None
proof_by (Some keys) auth given = if is_some (revealed keys.stored auth given) then Some (proves (final keys.server auth)) else None

abbrev pub if_proved : LoginRow → StartKeyOf → Option (List ℕ) → Reacts
if_proved row key None = wrong
if_proved row key (Some proof) = admitted proof row key

abbrev pub by_proof : LoginRow → KeyWord → StartKeyOf → FirstText → Option LastText → Reacts
by_proof row word key first None = malformed
by_proof row word key first (Some last) = if_proved row key (proof_by (keys row key) (auth_message first.bare (challenge_to row word key first) last.unproved) last.proof)

abbrev pub to_last : LoginRow → KeyWord → StartKeyOf → Text → Option FirstText → Reacts
to_last row word key text None = malformed
to_last row word key text (Some first) = by_proof row word key first (last_of first.header (joint_nonce word first) text)

-- ---- questions

-- a user with a verifier is asked for SCRAM in the stead of MD5
abbrev pub has_verifier : Option UserRow → Bool
has_verifier None = false
has_verifier (Some user) = is_verifier user.secret

abbrev pub offers_scram : StartKeyOf → Reacts
offers_scram key = Goes (asks_scram ∷ []) (Asked ForFirst key)

-- the key is there: the question, or the judgement where there is none
abbrev pub asks : AuthType → LoginRow → KeyWord → StartKeyOf → Reacts
asks Trust row word key = judged row word key []
asks Plain row word key = Goes (asks_cleartext ∷ []) (Asked ForPassword key)
asks Md5 row word key = if has_verifier row.user then offers_scram key else Goes (asks_md5 word.salt ∷ []) (Asked ForPassword key)
asks ScramSha256 row word key = offers_scram key

abbrev pub start_refusal : StartKeyError → Refusal
start_refusal NoUser = MalformedClientMessage
start_refusal Unsupported = UnsupportedParameter
start_refusal Replication = UnsupportedParameter
start_refusal Memory = OutOfMemory

abbrev pub or_refusal : Result StartKeyOf StartKeyError → Result StartKeyOf Refusal
or_refusal (Ok key) = Ok key
or_refusal (Err fault) = Err (start_refusal fault)

-- the key of a StartupMessage with these pairs
abbrev pub key_of : Rows → Result (List Pair) ViewError → Result StartKeyOf Refusal
key_of rows (Err fault) = Err MalformedClientMessage
key_of rows (Ok pairs) =
    or_refusal (start_key (rows (database_in pairs) (user_in pairs)).database (rows (database_in pairs) (user_in pairs)).names pairs)

-- the client has arrived, and is asked
abbrev pub asked : Rows → KeyWord → StartKeyOf → Reacts
asked rows word key = asks (rows key.row key.user).auth (rows key.row key.user) word key

abbrev pub begins : Rows → KeyWord → Result StartKeyOf Refusal → Reacts
begins rows word (Ok key) = asked rows word key
begins rows word (Err refusal) = Stops [] (Refused refusal)

abbrev pub not_twice : Bool → Stage → Reacts
not_twice true next = malformed
not_twice false next = Goes (no_encryption ∷ []) next

abbrev pub to_first : Rows → KeyWord → Bool → Bool → FirstOf → Reacts
to_first rows word tls gss (Start text) = begins rows word (key_of rows (startup_of text))
to_first rows word tls gss (Cancels pid secret) = Stops [] (Cancelling (record { pid = pid; secret = secret }))
to_first rows word tls gss AsksTls = not_twice tls (AtFirst true gss)
to_first rows word tls gss AsksGss = not_twice gss (AtFirst tls true)

abbrev pub to_password : LoginRow → KeyWord → StartKeyOf → Result Text ViewError → Reacts
to_password row word key (Err fault) = malformed
to_password row word key (Ok given) = judged row word key given

-- the three messages that answer a question are of one type
abbrev pub to_answer : LoginRow → KeyWord → StartKeyOf → Asking → List ℕ → Reacts
to_answer row word key ForPassword body = to_password row word key (password_of body)
to_answer row word key ForFirst body = to_initial row word key (initial_response_of body)
to_answer row word key (ForLast first) body = to_last row word key body (first_of first)

-- Terminate closes without a byte
abbrev pub to_message : LoginRow → KeyWord → StartKeyOf → Asking → ℕ → List ℕ → Reacts
to_message row word key asking kind body =
    if kind == PASSWORD_MESSAGE then to_answer row word key asking body else (if kind == TERMINATE then Stops [] Left else malformed)

abbrev pub react : Rows → KeyWord → Stage → Packet → Reacts
react rows word (AtFirst tls gss) (First p) = to_first rows word tls gss p
react rows word (Asked asking key) (Message kind body) = to_message (rows key.row key.user) word key asking kind body
react rows word (AtFirst tls gss) (Message kind body) = malformed
react rows word (Asked asking key) (First p) = malformed

-- ---- the login

-- the packets that may still come
abbrev pub answers_left : Asking → ℕ
answers_left ForPassword = 1
answers_left ForFirst = 2
answers_left (ForLast first) = 1

abbrev pub packets_left : Stage → ℕ
packets_left (AtFirst false false) = 5
packets_left (AtFirst true false) = 4
packets_left (AtFirst false true) = 4
packets_left (AtFirst true true) = 3
packets_left (Asked asking key) = answers_left asking

abbrev pub dialogue_from : Rows → KeyWord → Stage → List ℕ → Dialogue
dialogue_from rows word stage bytes = talk packet (react rows word) (packets_left stage) stage bytes

-- under settings and users
abbrev pub login_among : Rows → KeyWord → List ℕ → Dialogue
login_among rows word bytes = dialogue_from rows word (AtFirst false false) bytes

-- of a client whose login row is known
abbrev pub login : LoginRow → KeyWord → List ℕ → Dialogue
login row word bytes = login_among (λ database user. row) word bytes
