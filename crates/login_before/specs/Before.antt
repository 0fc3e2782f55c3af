-- The login's dialogue as it was before the login knew SCRAM (PostgreSQL manual, "Message Flow", "Start-up"), and the law that it is still
-- that of everybody who isn't asked for SCRAM.
use Rattle.std.specs.Prelude.{◌≡◌, ℕ, List, [], ◌∷◌, Option, Some, None, Result, Ok, Err, Bool, true, false, ◌==◌, if◌then◌else◌, not, bytes_eq, codes}
use Rattle.frame_view.specs.declared.Side.TheVariants.{Client}
use Rattle.frame_view.specs.declared.client.TheConstants.{PASSWORD_MESSAGE, TERMINATE}
use Rattle.frame_view.specs.Frames.{FirstOf, Start, Cancels, AsksTls, AsksGss, front, first_front}
use Rattle.message_view.specs.declared.KeyWord.{KeyWord}
use Rattle.message_view.specs.declared.ViewError.{ViewError}
use Rattle.message_view.specs.declared.refusal.Refusal.{Refusal}
use Rattle.message_view.specs.declared.refusal.Refusal.TheVariants.{MalformedClientMessage}
use Rattle.message_view.specs.Reading.{startup_of, password_of}
use Rattle.ini_config.specs.declared.database_rows.DbRow.{DbRow}
use Rattle.ini_config.specs.declared.option_values.AuthType.{AuthType}
use Rattle.ini_config.specs.declared.option_values.AuthType.TheVariants.{Trust, Plain, Md5, ScramSha256}
use Rattle.session_values.specs.State.{StartKeyOf}
use Rattle.param_track.specs.StartKeys.{Text}
use Rattle.login_core.specs.Talk.{Cut, Reaction, talk}
use Rattle.login_core.specs.Talk.Reaction.{Goes, Passes, Stops}
use Rattle.login_core.specs.Dialogue.{LoginRow, Rows, Reason, Refused, Failed, Left, Cancelling, Way, ToLink, link_key, ToConsole, Packet, First, Message, Dialogue, of_first, of_front, longest_message, no_encryption, ok, asks_cleartext, asks_md5, wrong_password, no_database, is_right, enters_console, key_of, has_verifier, login_among}

-- ---- the dialogue

-- before its start (whether SSLRequest and GSSENCRequest came), or asked for its password
pub data Stage : Type 0 where
  AtFirst : (tls gss : Bool) → Stage
  Asked : StartKeyOf → Stage

abbrev pub Reacts : Type 0
Reacts = Reaction Stage Way Reason

abbrev pub packet : Stage → List ℕ → Cut Packet Reason
packet (AtFirst tls gss) bytes = of_first (first_front bytes)
packet (Asked key) bytes = of_front (front Client longest_message bytes)

-- ---- reactions

abbrev pub malformed : Reacts
malformed = Stops [] (Refused MalformedClientMessage)

abbrev pub wrong : Reacts
wrong = Stops (wrong_password ∷ []) Failed

abbrev pub to_database : Option DbRow → StartKeyOf → Reacts
to_database None key = Stops (no_database ∷ []) Failed
to_database (Some row) key = Passes (ok ∷ []) (ToLink (link_key (Some row) key))

abbrev pub to_console : Bool → Reacts
to_console true = Passes [] ToConsole
to_console false = wrong

abbrev pub admitted : LoginRow → StartKeyOf → Reacts
admitted row key = if bytes_eq key.row (codes "pgbouncer") then to_console (enters_console row key.user) else to_database row.database key

abbrev pub judged : LoginRow → KeyWord → StartKeyOf → Text → Reacts
judged row word key given = if is_right row word key given then admitted row key else wrong

-- the key is there: the question, or the judgement where there is none
abbrev pub asks : AuthType → LoginRow → KeyWord → StartKeyOf → Reacts
asks Trust row word key = judged row word key []
asks Plain row word key = Goes (asks_cleartext ∷ []) (Asked key)
asks Md5 row word key = Goes (asks_md5 word.salt ∷ []) (Asked key)
asks ScramSha256 row word key = malformed

-- the client has arrived, and is asked
abbrev pub asked : Rows → KeyWord → StartKeyOf → Reacts
asked rows word key = asks (rows key.row key.user).auth (rows key.row key.user) word key

abbrev pub begins : Rows → KeyWord → Result StartKeyOf Refusal → Reacts
begins rows word (Ok key) = asked rows word key
begins rows word (Err refusal) = Stops [] (Refused refusal)

abbrev pub not_twice : Bool → Stage → Reacts
not_twice true next = malformed
not_twice false next = Goes (no_encryption ∷ []) next

abbrev pub to_first : Rows → KeyWord → Bool → Bool → FirstOf → Reacts
to_first rows word tls gss (Start text) = begins rows word (key_of rows (startup_of text))
to_first rows word tls gss (Cancels pid secret) = Stops [] (Cancelling (record { pid = pid; secret = secret }))
to_first rows word tls gss AsksTls = not_twice tls (AtFirst true gss)
to_first rows word tls gss AsksGss = not_twice gss (AtFirst tls true)

abbrev pub to_password : LoginRow → KeyWord → StartKeyOf → Result Text ViewError → Reacts
to_password row word key (Err fault) = malformed
to_password row word key (Ok given) = judged row word key given

-- Terminate closes without a byte
abbrev pub to_message : LoginRow → KeyWord → StartKeyOf → ℕ → List ℕ → Reacts
to_message row word key kind body =
    if kind == PASSWORD_MESSAGE then to_password row word key (password_of body) else (if kind == TERMINATE then Stops [] Left else malformed)

abbrev pub react : Rows → KeyWord → Stage → Packet → Reacts
react rows word (AtFirst tls gss) (First p) = to_first rows word tls gss p
react rows word (Asked key) (Message kind body) = to_message (rows key.row key.user) word key kind body
react rows word (AtFirst tls gss) (Message kind body) = malformed
react rows word (Asked key) (First p) = malformed

-- ---- the login

-- of at most four packets: two requests for encryption, the start, and the answer to its question
abbrev pub login_before : Rows → KeyWord → List ℕ → Dialogue
login_before rows word bytes = talk packet (react rows word) 4 (AtFirst false false) bytes

-- ---- the law

abbrev pub asks_no_scram : AuthType → LoginRow → Bool
asks_no_scram Trust row = true
asks_no_scram Plain row = true
asks_no_scram Md5 row = not (has_verifier row.user)
asks_no_scram ScramSha256 row = false

-- no client of these rows is asked for SCRAM: by no row's auth_type, and no user of one that asks for MD5 has a verifier
abbrev pub AskNoScram : Rows → Type 0
AskNoScram rows = (database user : Text) → asks_no_scram (rows database user).auth (rows database user) ≡ true

-- Then the login says what it said before, and leads where it led.
abbrev pub LoginsAreAsBefore : Type 0
LoginsAreAsBefore = (rows : Rows) (word : KeyWord) (bytes : List ℕ) → AskNoScram rows → login_among rows word bytes ≡ login_before rows word bytes
