-- The key with which a login passes: it is made of the pairs of a short first packet, and its database has a row.
use Rattle.std.proofs.Common.{◌≡◌, ℕ, zero, suc, ◌-◌, ◌<◌, ◌≤◌, List, [], ◌∷◌, length, length-take, Option, Some, None, Result, Ok, Err, refl, subst, Bool, true, false, arith, ltb-false}
use Rattle.std.specs.Prelude.{if◌then◌else◌, ◌==◌, nat_lt, bytes_eq, codes, unwrap_or}
use Rattle.frame_view.specs.Frames.{FirstOf, Start, Cancels, AsksTls, AsksGss, FirstFront, AFirst, LacksFirst, FaultyFirst, Front, AFrame, Lacks, Faulty, first_front, of_length, at_code, of_code, number, front}
use Rattle.frame_view.specs.declared.Side.TheVariants.{Client}
use Rattle.frame_view.specs.declared.client.TheConstants.{PASSWORD_MESSAGE, TERMINATE}
use Rattle.frame_view.specs.declared.first.TheConstants.{PROTOCOL_3_0, CANCEL_REQUEST, SSL_REQUEST, GSSENC_REQUEST, MAX_FIRST_PACKET}
use Rattle.message_view.specs.declared.KeyWord.{KeyWord}
use Rattle.message_view.specs.declared.ViewError.{ViewError}
use Rattle.message_view.specs.declared.refusal.Refusal.{Refusal}
use Rattle.message_view.specs.Reading.{startup_of, password_of}
use Rattle.ini_config.specs.declared.database_rows.DbRow.{DbRow}
use Rattle.ini_config.specs.declared.option_values.AuthType.{AuthType}
use Rattle.ini_config.specs.declared.option_values.AuthType.TheVariants.{Trust, Plain, Md5, ScramSha256}
use Rattle.scram.specs.Keys.{auth_message}
use Rattle.scram.specs.Messages.{FirstOf as FirstText, LastOf as LastText, first_of, last_of}
use Rattle.scram.specs.Wire.{initial_response_of}
use Rattle.session_values.specs.Lawful.{IsClientKey}
use Rattle.session_values.specs.State.{StartKeyOf}
use Rattle.param_track.specs.declared.StartKeyError.{StartKeyError}
use Rattle.param_track.specs.StartKeys.{Text, Pair, Names, parameters_in, key_at, refusal, unless, start_key, database_in, user_in}
use Rattle.key_laws.specs.Keys.{ArePairs}
use Rattle.key_laws.proofs.ByName.{pairs_are_lawful}
use Rattle.key_laws.proofs.Choices.{choose}
use Rattle.login_laws.specs.StartKeys.{IsLawfulRow, IsLawfulUser}
use Rattle.login_laws.proofs.Following.{start-client}
use Rattle.login_core.specs.Talk.{Cut, End, Said, follow, on_cut, talk}
use Rattle.login_core.specs.Talk.Cut.{Whole, Need, Bad}
use Rattle.login_core.specs.Talk.Reaction.{Goes, Passes, Stops}
use Rattle.login_core.specs.Talk.End.{Unfinished, Passed, Stopped}
use Rattle.login_core.specs.Dialogue.{login_among, LoginRow, Rows, Reason, Left, Way, ToLink, ToConsole, link_key, to_answer, to_first_message, to_initial, to_last, by_proof, if_proved, proof_by, keys, challenge_to, joint_nonce, has_verifier, offers_scram, asks_md5, Asking, ForPassword, ForFirst, ForLast, Stage, AtFirst, Asked, Packet, First, Message, Reacts, packet, of_first, of_front, longest_message, react, to_first, to_password, to_console, to_database, begins, asks, judged, admitted, is_right, enters_console, wrong, malformed, not_twice, key_of, or_refusal}
use Rattle.login_laws.specs.Laws.{AreLawfulRows, IsLinkKey, IsNamed, IsOfRow, PassedKeysAreLinkKeys, PassedKeysAreOfTheirRows}

-- ---- the key of these pairs

-- a fact of the key, where there is one
abbrev OfKey : {E : Type 0} → (StartKeyOf → Type 0) → Result StartKeyOf E → Type 0
OfKey P (Ok key) = P key
OfKey P (Err e) = Unit {0}

both-of : {E : Type 0} (P Q : StartKeyOf → Type 0) (r : Result StartKeyOf E) → OfKey P r → OfKey Q r → OfKey (λ k. P k × Q k) r
both-of P Q (Ok key) h k = (h, k)
both-of P Q (Err e) h k = tt

client-of : (row : Option DbRow) (names : Names) (pairs : List Pair) → IsLawfulRow row → ArePairs pairs → OfKey IsClientKey (start_key row names pairs)
client-of row names pairs h k = by_result (start_key row names pairs) refl
  where
    by_result : (r : Result StartKeyOf StartKeyError) → start_key row names pairs ≡ r → OfKey IsClientKey r
    by_result (Ok key) e = start-client row names pairs key h k e
    by_result (Err fault) e = tt

-- where the database has a row, it has a name, and the key is of that row, whose user has a name
record IsServedBy (row : DbRow) (key : StartKeyOf) : Type 0 where
  named : 0 < length key.dbname
  host : key.host ≡ Some row.host
  port : key.port ≡ row.port
  dbname : key.dbname ≡ row.dbname
  user : IsLawfulUser row.user

abbrev IsServed : Option DbRow → StartKeyOf → Type 0
IsServed None key = Unit {0}
IsServed (Some row) key = IsServedBy row key

named : (name : Option Text) (user : Text) → IsNamed name (unwrap_or name user)
named None user = tt
named (Some name) user = refl

-- the key of a link to a user of its row's
linked : (key : StartKeyOf) (user : Option Text) → IsLawfulUser user → IsClientKey key → IsClientKey (record key { user = unwrap_or user key.user })
linked key None n h = h
linked key (Some user) n h = record {
  lawful = record { row = h.lawful.row; dbname = h.lawful.dbname; user = n.1; has_user = n.0; has_dbname = h.lawful.has_dbname; parameters = h.lawful.parameters; ordered = h.lawful.ordered };
  names = h.names;
}

module _ (rows : Rows) where
  abbrev IsAmong : StartKeyOf → Type 0
  IsAmong key = IsServed (rows key.row key.user).database key

  key_at-among : (row : Option DbRow) (database user : Text) (parameters : List Pair) → IsLawfulRow row → row ≡ (rows database user).database → IsAmong (key_at row database user parameters)
  key_at-among None database user parameters h e = subst (λ (o : Option DbRow). IsServed o (key_at None database user parameters)) e tt
  key_at-among (Some row) database user parameters h e = subst (λ (o : Option DbRow). IsServed o (key_at (Some row) database user parameters)) e (record { named = h.dbname.0; host = refl; port = refl; dbname = refl; user = h.user })

  unless-among : (o : Option StartKeyError) (key : StartKeyOf) → IsAmong key → OfKey IsAmong (unless o key)
  unless-among None key h = h
  unless-among (Some fault) key h = tt

  -- what is known of a key among these rows
  abbrev IsKey : StartKeyOf → Type 0
  IsKey key = IsClientKey key × IsAmong key

  or_refusal-key : (r : Result StartKeyOf StartKeyError) → OfKey IsKey r → OfKey IsKey (or_refusal r)
  or_refusal-key (Ok key) h = h
  or_refusal-key (Err fault) h = tt

  abbrev AreRead : Result (List Pair) ViewError → Type 0
  AreRead (Ok pairs) = ArePairs pairs
  AreRead (Err fault) = Unit {0}

  startup-read : (body : List ℕ) → length body ≤ 10000 → AreRead (startup_of body)
  startup-read body low = by_result (startup_of body) refl
    where
      by_result : (r : Result (List Pair) ViewError) → startup_of body ≡ r → AreRead r
      by_result (Ok pairs) e = pairs_are_lawful body pairs low e
      by_result (Err fault) e = tt

  key-made : AreLawfulRows rows → (read : Result (List Pair) ViewError) → AreRead read → OfKey IsKey (key_of rows read)
  key-made lawful (Err fault) h = tt
  key-made lawful (Ok pairs) h =
      let row : LoginRow = rows (database_in pairs) (user_in pairs) in
      let l : IsLawfulRow row.database = lawful (database_in pairs) (user_in pairs) in
      let key : StartKeyOf = key_at row.database (database_in pairs) (user_in pairs) (parameters_in row.names pairs) in
      or_refusal-key (start_key row.database row.names pairs)
      (both-of IsClientKey IsAmong (start_key row.database row.names pairs) (client-of row.database row.names pairs l h)
      (unless-among (refusal row.names pairs) key (key_at-among row.database (database_in pairs) (user_in pairs) (parameters_in row.names pairs) l refl)))

-- ---- a first packet is short

abbrev IsShortFirst : FirstFront → Type 0
IsShortFirst (AFirst (Start text) rest) = length text ≤ 10000
IsShortFirst (AFirst (Cancels pid secret) rest) = Unit {0}
IsShortFirst (AFirst AsksTls rest) = Unit {0}
IsShortFirst (AFirst AsksGss rest) = Unit {0}
IsShortFirst (LacksFirst n) = Unit {0}
IsShortFirst (FaultyFirst fault) = Unit {0}

code-short : (len code : ℕ) (rest : List ℕ) → len ≤ 10000 → IsShortFirst (of_code len code rest)
code-short len code rest low =
    choose IsShortFirst (code == PROTOCOL_3_0) _ _ (λ e. choose IsShortFirst (nat_lt (length rest) (len - 8)) _ _ (λ f. tt) (λ f. omega (arith, length-take (len - 8) rest)))
    (λ e. choose IsShortFirst (code == CANCEL_REQUEST) _ _ (λ f. choose IsShortFirst (len == 16) _ _ (λ g. choose IsShortFirst (nat_lt (length rest) 8) _ _ (λ i. tt) (λ i. tt)) (λ g. tt))
    (λ f. choose IsShortFirst (code == SSL_REQUEST) _ _ (λ g. choose IsShortFirst (len == 8) _ _ (λ i. tt) (λ i. tt))
    (λ g. choose IsShortFirst (code == GSSENC_REQUEST) _ _ (λ i. choose IsShortFirst (len == 8) _ _ (λ j. tt) (λ j. tt)) (λ i. tt))))

at_code-short : (len : ℕ) (rest : List ℕ) → len ≤ 10000 → IsShortFirst (at_code len rest)
at_code-short len (a ∷ b ∷ c ∷ d ∷ rest) low = code-short len (number a b c d) rest low
at_code-short len [] low = tt
at_code-short len (a ∷ []) low = tt
at_code-short len (a ∷ b ∷ []) low = tt
at_code-short len (a ∷ b ∷ c ∷ []) low = tt

length-short : (len : ℕ) (rest : List ℕ) → IsShortFirst (of_length len rest)
length-short len rest =
    choose IsShortFirst (nat_lt len 8) _ _ (λ e. tt)
    (λ e. choose IsShortFirst (nat_lt MAX_FIRST_PACKET len) _ _ (λ f. tt) (λ f. at_code-short len rest (ltb-false MAX_FIRST_PACKET len f)))

first-short : (bytes : List ℕ) → IsShortFirst (first_front bytes)
first-short (a ∷ b ∷ c ∷ d ∷ rest) = length-short (number a b c d) rest
first-short [] = tt
first-short (a ∷ []) = tt
first-short (a ∷ b ∷ []) = tt
first-short (a ∷ b ∷ c ∷ []) = tt

-- ---- the dialogue

module _ (rows : Rows) where
  abbrev IsLawfulStage : Stage → Type 0
  IsLawfulStage (AtFirst tls gss) = Unit {0}
  IsLawfulStage (Asked asking key) = IsKey rows key

  abbrev IsLawfulWay : Way → Type 0
  IsLawfulWay (ToLink key) = IsLinkKey key × ((user : Text) × IsOfRow (rows key.row user).database key)
  IsLawfulWay ToConsole = Unit {0}

  abbrev IsLawfulReaction : Reacts → Type 0
  IsLawfulReaction (Goes pieces stage) = IsLawfulStage stage
  IsLawfulReaction (Passes pieces way) = IsLawfulWay way
  IsLawfulReaction (Stops pieces reason) = Unit {0}

  abbrev IsLawfulEnd : End Way Reason → Type 0
  IsLawfulEnd Unfinished = Unit {0}
  IsLawfulEnd (Passed way left) = IsLawfulWay way
  IsLawfulEnd (Stopped reason) = Unit {0}

  abbrev IsLawfulPacket : Packet → Type 0
  IsLawfulPacket (First (Start text)) = length text ≤ 10000
  IsLawfulPacket (First (Cancels pid secret)) = Unit {0}
  IsLawfulPacket (First AsksTls) = Unit {0}
  IsLawfulPacket (First AsksGss) = Unit {0}
  IsLawfulPacket (Message kind body) = Unit {0}

  abbrev IsLawfulCut : Cut Packet Reason → Type 0
  IsLawfulCut (Whole p rest) = IsLawfulPacket p
  IsLawfulCut (Need n) = Unit {0}
  IsLawfulCut (Bad reason) = Unit {0}

  of_first-lawful : (f : FirstFront) → IsShortFirst f → IsLawfulCut (of_first f)
  of_first-lawful (AFirst (Start text) rest) h = h
  of_first-lawful (AFirst (Cancels pid secret) rest) h = tt
  of_first-lawful (AFirst AsksTls rest) h = tt
  of_first-lawful (AFirst AsksGss rest) h = tt
  of_first-lawful (LacksFirst n) h = tt
  of_first-lawful (FaultyFirst fault) h = tt

  of_front-lawful : (f : Front) → IsLawfulCut (of_front f)
  of_front-lawful (AFrame kind body rest) = tt
  of_front-lawful (Lacks n) = tt
  of_front-lawful (Faulty fault) = tt

  packet-lawful : (stage : Stage) (bytes : List ℕ) → IsLawfulCut (packet stage bytes)
  packet-lawful (AtFirst tls gss) bytes = of_first-lawful (first_front bytes) (first-short bytes)
  packet-lawful (Asked asking key) bytes = of_front-lawful (front Client longest_message bytes)

  to_console-lawful : (proof : List ℕ) (b : Bool) → IsLawfulReaction (to_console proof b)
  to_console-lawful proof true = tt
  to_console-lawful proof false = tt

  to_database-lawful : (proof : List ℕ) (row : Option DbRow) (key : StartKeyOf) → IsClientKey key → IsServed row key → row ≡ (rows key.row key.user).database → IsLawfulReaction (to_database proof row key)
  to_database-lawful proof None key h k e = tt
  to_database-lawful proof (Some row) key h k e =
      let link : StartKeyOf = link_key (Some row) key in
      let at : IsOfRow (Some row) link = record { host = k.host; port = k.port; dbname = k.dbname; user = named row.user key.user } in
      (record { client = linked key row.user k.user h; dbname = k.named }, (key.user, subst (λ (o : Option DbRow). IsOfRow o link) e at))

  admitted-lawful : (proof : List ℕ) (row : LoginRow) (key : StartKeyOf) → IsClientKey key → IsServed row.database key → row.database ≡ (rows key.row key.user).database → IsLawfulReaction (admitted proof row key)
  admitted-lawful proof row key h k of =
      choose IsLawfulReaction (bytes_eq key.row (codes "pgbouncer")) (to_console proof (enters_console row key.user)) (to_database proof row.database key) (λ f. to_console-lawful proof (enters_console row key.user)) (λ f. to_database-lawful proof row.database key h k of)

  judged-lawful : (row : LoginRow) (word : KeyWord) (key : StartKeyOf) (given : Text) → IsClientKey key → IsServed row.database key → row.database ≡ (rows key.row key.user).database → IsLawfulReaction (judged row word key given)
  judged-lawful row word key given h k of =
      choose IsLawfulReaction (is_right row word key given) (admitted [] row key) wrong (λ e. admitted-lawful [] row key h k of) (λ e. tt)

  asks-lawful : (auth : AuthType) (word : KeyWord) (key : StartKeyOf) → IsKey rows key → IsLawfulReaction (asks auth (rows key.row key.user) word key)
  asks-lawful Trust word key h = judged-lawful (rows key.row key.user) word key [] h.0 h.1 refl
  asks-lawful Plain word key h = h
  asks-lawful Md5 word key h =
      choose IsLawfulReaction (has_verifier (rows key.row key.user).user) (offers_scram key) (Goes (asks_md5 word.salt ∷ []) (Asked ForPassword key)) (λ e. h) (λ e. h)
  asks-lawful ScramSha256 word key h = h

  begins-lawful : (word : KeyWord) (r : Result StartKeyOf Refusal) → OfKey (IsKey rows) r → IsLawfulReaction (begins rows word r)
  begins-lawful word (Ok key) h = asks-lawful (rows key.row key.user).auth word key h
  begins-lawful word (Err refusal) h = tt

  twice-lawful : (b : Bool) (stage : Stage) → IsLawfulStage stage → IsLawfulReaction (not_twice b stage)
  twice-lawful true stage h = tt
  twice-lawful false stage h = h

  first-lawful : AreLawfulRows rows → (word : KeyWord) (tls gss : Bool) (p : FirstOf) → IsLawfulPacket (First p) → IsLawfulReaction (to_first rows word tls gss p)
  first-lawful lawful word tls gss (Start text) h = begins-lawful word (key_of rows (startup_of text)) (key-made rows lawful (startup_of text) (startup-read rows text h))
  first-lawful lawful word tls gss (Cancels pid secret) h = tt
  first-lawful lawful word tls gss AsksTls h = twice-lawful tls (AtFirst true gss) tt
  first-lawful lawful word tls gss AsksGss h = twice-lawful gss (AtFirst tls true) tt

  password-lawful : (word : KeyWord) (key : StartKeyOf) (r : Result Text ViewError) → IsKey rows key → IsLawfulReaction (to_password (rows key.row key.user) word key r)
  password-lawful word key (Ok given) h = judged-lawful (rows key.row key.user) word key given h.0 h.1 refl
  password-lawful word key (Err fault) h = tt

  first_message-lawful : (word : KeyWord) (key : StartKeyOf) (text : Text) (first : Option FirstText) → IsKey rows key → IsLawfulReaction (to_first_message (rows key.row key.user) word key text first)
  first_message-lawful word key text None h = tt
  first_message-lawful word key text (Some first) h = h

  initial-lawful : (word : KeyWord) (key : StartKeyOf) (text : Option Text) → IsKey rows key → IsLawfulReaction (to_initial (rows key.row key.user) word key text)
  initial-lawful word key None h = tt
  initial-lawful word key (Some text) h = first_message-lawful word key text (first_of text) h

  proved-lawful : (key : StartKeyOf) (proof : Option (List ℕ)) → IsKey rows key → IsLawfulReaction (if_proved (rows key.row key.user) key proof)
  proved-lawful key None h = tt
  proved-lawful key (Some proof) h = admitted-lawful proof (rows key.row key.user) key h.0 h.1 refl

  by_proof-lawful : (word : KeyWord) (key : StartKeyOf) (first : FirstText) (last : Option LastText) → IsKey rows key → IsLawfulReaction (by_proof (rows key.row key.user) word key first last)
  by_proof-lawful word key first None h = tt
  by_proof-lawful word key first (Some last) h =
      let row : LoginRow = rows key.row key.user in
      proved-lawful key (proof_by (keys row key) (auth_message first.bare (challenge_to row word key first) last.unproved) last.proof) h

  last-lawful : (word : KeyWord) (key : StartKeyOf) (text : Text) (first : Option FirstText) → IsKey rows key → IsLawfulReaction (to_last (rows key.row key.user) word key text first)
  last-lawful word key text None h = tt
  last-lawful word key text (Some first) h = by_proof-lawful word key first (last_of first.header (joint_nonce word first) text) h

  answer-lawful : (word : KeyWord) (key : StartKeyOf) (asking : Asking) (body : List ℕ) → IsKey rows key → IsLawfulReaction (to_answer (rows key.row key.user) word key asking body)
  answer-lawful word key ForPassword body h = password-lawful word key (password_of body) h
  answer-lawful word key ForFirst body h = initial-lawful word key (initial_response_of body) h
  answer-lawful word key (ForLast first) body h = last-lawful word key body (first_of first) h

  react-lawful : AreLawfulRows rows → (word : KeyWord) (stage : Stage) (p : Packet) → IsLawfulStage stage → IsLawfulPacket p → IsLawfulReaction (react rows word stage p)
  react-lawful lawful word (AtFirst tls gss) (First p) h k = first-lawful lawful word tls gss p k
  react-lawful lawful word (AtFirst tls gss) (Message kind body) h k = tt
  react-lawful lawful word (Asked asking key) (First p) h k = tt
  react-lawful lawful word (Asked asking key) (Message kind body) h k =
      choose IsLawfulReaction (kind == PASSWORD_MESSAGE) (to_answer (rows key.row key.user) word key asking body) (if kind == TERMINATE then Stops [] Left else malformed)
      (λ e. answer-lawful word key asking body h) (λ e. choose IsLawfulReaction (kind == TERMINATE) (Stops [] Left) malformed (λ f. tt) (λ f. tt))

  follow-lawful : (rest : List ℕ) (next : Stage → Said Way Reason) (r : Reacts) → ((stage : Stage) → IsLawfulStage stage → IsLawfulEnd (next stage).ended) → IsLawfulReaction r → IsLawfulEnd (follow rest next r).ended
  follow-lawful rest next (Goes pieces stage) f h = f stage h
  follow-lawful rest next (Passes pieces way) f h = h
  follow-lawful rest next (Stops pieces reason) f h = tt

  on_cut-lawful : (react : Packet → Reacts) (next : Stage → List ℕ → Said Way Reason) (c : Cut Packet Reason) → ((p : Packet) → IsLawfulPacket p → IsLawfulReaction (react p)) →
      ((stage : Stage) (bytes : List ℕ) → IsLawfulStage stage → IsLawfulEnd (next stage bytes).ended) → IsLawfulCut c → IsLawfulEnd (on_cut react next c).ended
  on_cut-lawful react next (Whole p rest) f g h = follow-lawful rest (λ s. next s rest) (react p) (λ s k. g s rest k) (f p h)
  on_cut-lawful react next (Need n) f g h = tt
  on_cut-lawful react next (Bad reason) f g h = tt

  talk-lawful : AreLawfulRows rows → (word : KeyWord) (n : ℕ) (stage : Stage) (bytes : List ℕ) → IsLawfulStage stage → IsLawfulEnd (talk packet (react rows word) n stage bytes).ended
  talk-lawful lawful word zero stage bytes h = tt
  talk-lawful lawful word (suc n) stage bytes h =
      on_cut-lawful (react rows word stage) (talk packet (react rows word) n) (packet stage bytes) (λ p k. react-lawful lawful word stage p h k) (λ s b k. talk-lawful lawful word n s b k) (packet-lawful stage bytes)

passed-lawful : (rows : Rows) (word : KeyWord) (bytes left : List ℕ) (key : StartKeyOf) → AreLawfulRows rows → (login_among rows word bytes).ended ≡ Passed (ToLink key) left → IsLawfulEnd rows (Passed (ToLink key) left)
passed-lawful rows word bytes left key lawful e = subst (IsLawfulEnd rows) e (talk-lawful rows lawful word 5 (AtFirst false false) bytes tt)

pub passed_keys-linked : PassedKeysAreLinkKeys
passed_keys-linked rows word bytes left key lawful e = (passed-lawful rows word bytes left key lawful e).0

pub passed_keys-of_rows : PassedKeysAreOfTheirRows
passed_keys-of_rows rows word bytes left key lawful e = (passed-lawful rows word bytes left key lawful e).1
