-- A login that asks nobody for SCRAM says what it said before.
use Rattle.std.proofs.Common.{◌≡◌, ℕ, suc, List, [], ◌∷◌, Option, Some, None, Result, Ok, Err, refl, ap, ◌∙◌, Bool, true, false}
use Rattle.std.specs.Prelude.{◌==◌, if◌then◌else◌, not, bytes_eq, codes}
use Rattle.frame_view.specs.declared.Side.TheVariants.{Client}
use Rattle.frame_view.specs.declared.client.TheConstants.{PASSWORD_MESSAGE, TERMINATE}
use Rattle.frame_view.specs.Frames.{FirstOf, Start, Cancels, AsksTls, AsksGss, Front, AFrame, Lacks, Faulty, front, FirstFront, AFirst, LacksFirst, FaultyFirst, first_front}
use Rattle.ini_config.specs.declared.database_rows.DbRow.{DbRow}
use Rattle.ini_config.specs.declared.option_values.AuthType.{AuthType}
use Rattle.ini_config.specs.declared.option_values.AuthType.TheVariants.{Trust, Plain, Md5, ScramSha256}
use Rattle.message_view.specs.declared.KeyWord.{KeyWord}
use Rattle.message_view.specs.declared.ViewError.{ViewError}
use Rattle.message_view.specs.declared.refusal.Refusal.{Refusal}
use Rattle.message_view.specs.Reading.{startup_of, password_of}
use Rattle.session_values.specs.State.{StartKeyOf}
use Rattle.param_track.specs.StartKeys.{Text}
use Rattle.login_core.specs.Talk.{says, follow, on_cut, talk}
use Rattle.login_core.specs.Talk.Reaction.{Goes, Stops}
use Rattle.login_core.specs.Dialogue as now
use Rattle.login_core.specs.Dialogue.{LoginRow, Rows, Left, Dialogue, ForPassword, asks_cleartext, asks_md5, no_encryption, of_first, of_front, longest_message, is_right, enters_console, key_of, has_verifier, login_among}
use Rattle.login_before.specs.Before as before
use Rattle.login_before.specs.Before.{AskNoScram, LoginsAreAsBefore, asks_no_scram}

-- what follows is the same in a stage now and in one before
module _ (now_next : now.Stage → Dialogue) (before_next : before.Stage → Dialogue) (rest : List ℕ) where
  -- ---- ends

  console_same : (b : Bool) → follow rest now_next (now.to_console [] b) ≡ follow rest before_next (before.to_console b)
  console_same true = refl
  console_same false = refl

  database_same : (row : Option DbRow) (key : StartKeyOf) → follow rest now_next (now.to_database [] row key) ≡ follow rest before_next (before.to_database row key)
  database_same None key = refl
  database_same (Some row) key = refl

  admitted_same : (row : LoginRow) (key : StartKeyOf) (b : Bool) →
      follow rest now_next (if b then now.to_console [] (enters_console row key.user) else now.to_database [] row.database key)
      ≡ follow rest before_next (if b then before.to_console (enters_console row key.user) else before.to_database row.database key)
  admitted_same row key true = console_same (enters_console row key.user)
  admitted_same row key false = database_same row.database key

  right_same : (row : LoginRow) (key : StartKeyOf) (b : Bool) →
      follow rest now_next (if b then now.admitted [] row key else now.wrong) ≡ follow rest before_next (if b then before.admitted row key else before.wrong)
  right_same row key true = admitted_same row key (bytes_eq key.row (codes "pgbouncer"))
  right_same row key false = refl

  judged_same : (row : LoginRow) (word : KeyWord) (key : StartKeyOf) (given : Text) → follow rest now_next (now.judged row word key given) ≡ follow rest before_next (before.judged row word key given)
  judged_same row word key given = right_same row key (is_right row word key given)

  password_same : (row : LoginRow) (word : KeyWord) (key : StartKeyOf) (given : Result Text ViewError) → follow rest now_next (now.to_password row word key given) ≡ follow rest before_next (before.to_password row word key given)
  password_same row word key (Err fault) = refl
  password_same row word key (Ok given) = judged_same row word key given

  left_same : (b : Bool) → follow rest now_next (if b then Stops [] Left else now.malformed) ≡ follow rest before_next (if b then Stops [] Left else before.malformed)
  left_same true = refl
  left_same false = refl

  kind_same : (row : LoginRow) (word : KeyWord) (key : StartKeyOf) (p x : Bool) (body : List ℕ) →
      follow rest now_next (if p then now.to_answer row word key ForPassword body else (if x then Stops [] Left else now.malformed))
      ≡ follow rest before_next (if p then before.to_password row word key (password_of body) else (if x then Stops [] Left else before.malformed))
  kind_same row word key true x body = password_same row word key (password_of body)
  kind_same row word key false x body = left_same x

  pub message_same : (row : LoginRow) (word : KeyWord) (key : StartKeyOf) (kind : ℕ) (body : List ℕ) →
      follow rest now_next (now.to_message row word key ForPassword kind body) ≡ follow rest before_next (before.to_message row word key kind body)
  message_same row word key kind body = kind_same row word key (kind == PASSWORD_MESSAGE) (kind == TERMINATE) body

  -- ---- first packets

  md5_same : (word : KeyWord) (key : StartKeyOf) (b : Bool) → not b ≡ true → now_next (now.Asked ForPassword key) ≡ before_next (before.Asked key) →
      follow rest now_next (if b then now.offers_scram key else Goes (asks_md5 word.salt ∷ []) (now.Asked ForPassword key)) ≡ follow rest before_next (Goes (asks_md5 word.salt ∷ []) (before.Asked key))
  md5_same word key true n h = absurd cc
  md5_same word key false n h = ap (says (asks_md5 word.salt ∷ [])) h

  asks_same : (auth : AuthType) (row : LoginRow) (word : KeyWord) (key : StartKeyOf) → asks_no_scram auth row ≡ true → now_next (now.Asked ForPassword key) ≡ before_next (before.Asked key) →
      follow rest now_next (now.asks auth row word key) ≡ follow rest before_next (before.asks auth row word key)
  asks_same Trust row word key n h = judged_same row word key []
  asks_same Plain row word key n h = ap (says (asks_cleartext ∷ [])) h
  asks_same Md5 row word key n h = md5_same word key (has_verifier row.user) n h
  asks_same ScramSha256 row word key n h = absurd cc

  module _ (rows : Rows) (word : KeyWord) (none : AskNoScram rows) (asked : (key : StartKeyOf) → now_next (now.Asked ForPassword key) ≡ before_next (before.Asked key)) where
    begins_same : (k : Result StartKeyOf Refusal) → follow rest now_next (now.begins rows word k) ≡ follow rest before_next (before.begins rows word k)
    begins_same (Ok key) = asks_same (rows key.row key.user).auth (rows key.row key.user) word key (none key.row key.user) (asked key)
    begins_same (Err refusal) = refl

    twice_same : (b : Bool) (s : now.Stage) (t : before.Stage) → (b ≡ false → now_next s ≡ before_next t) → follow rest now_next (now.not_twice b s) ≡ follow rest before_next (before.not_twice b t)
    twice_same true s t h = refl
    twice_same false s t h = ap (says (no_encryption ∷ [])) (h refl)

    pub first_same : (tls gss : Bool) (p : FirstOf) → (tls ≡ false → now_next (now.AtFirst true gss) ≡ before_next (before.AtFirst true gss)) → (gss ≡ false → now_next (now.AtFirst tls true) ≡ before_next (before.AtFirst tls true)) →
        follow rest now_next (now.to_first rows word tls gss p) ≡ follow rest before_next (before.to_first rows word tls gss p)
    first_same tls gss (Start text) t g = begins_same (key_of rows (startup_of text))
    first_same tls gss (Cancels pid secret) t g = refl
    first_same tls gss AsksTls t g = twice_same tls (now.AtFirst true gss) (before.AtFirst true gss) t
    first_same tls gss AsksGss t g = twice_same gss (now.AtFirst tls true) (before.AtFirst tls true) g

-- ---- the dialogues

module _ (rows : Rows) (word : KeyWord) (none : AskNoScram rows) where
  abbrev says_now : ℕ → now.Stage → List ℕ → Dialogue
  says_now n s bytes = talk now.packet (now.react rows word) n s bytes

  abbrev said_before : ℕ → before.Stage → List ℕ → Dialogue
  said_before n s bytes = talk before.packet (before.react rows word) n s bytes

  front_asked : (m n : ℕ) (key : StartKeyOf) (f : Front) →
      on_cut (now.react rows word (now.Asked ForPassword key)) (says_now m) (of_front f) ≡ on_cut (before.react rows word (before.Asked key)) (said_before n) (of_front f)
  front_asked m n key (AFrame kind body rest) = message_same (λ s. says_now m s rest) (λ s. said_before n s rest) rest (rows key.row key.user) word key kind body
  front_asked m n key (Lacks k) = refl
  front_asked m n key (Faulty fault) = refl

  -- once the client was asked, whatever could come
  asked_same : (m n : ℕ) (key : StartKeyOf) (bytes : List ℕ) → says_now (suc m) (now.Asked ForPassword key) bytes ≡ said_before (suc n) (before.Asked key) bytes
  asked_same m n key bytes = front_asked m n key (front Client longest_message bytes)

  front_first : (n : ℕ) (tls gss : Bool) (f : FirstFront) → (tls ≡ false → (rest : List ℕ) → says_now (suc (suc n)) (now.AtFirst true gss) rest ≡ said_before (suc n) (before.AtFirst true gss) rest)
      → (gss ≡ false → (rest : List ℕ) → says_now (suc (suc n)) (now.AtFirst tls true) rest ≡ said_before (suc n) (before.AtFirst tls true) rest)
      → on_cut (now.react rows word (now.AtFirst tls gss)) (says_now (suc (suc n))) (of_first f) ≡ on_cut (before.react rows word (before.AtFirst tls gss)) (said_before (suc n)) (of_first f)
  front_first n tls gss (AFirst p rest) t g =
      first_same (λ s. says_now (suc (suc n)) s rest) (λ s. said_before (suc n) s rest) rest rows word none (λ key. asked_same (suc n) n key rest) tls gss p (λ e. t e rest) (λ e. g e rest)
  front_first n tls gss (LacksFirst m) t g = refl
  front_first n tls gss (FaultyFirst fault) t g = refl

  both_requests : (bytes : List ℕ) → says_now 3 (now.AtFirst true true) bytes ≡ said_before 2 (before.AtFirst true true) bytes
  both_requests bytes = front_first 0 true true (first_front bytes) (λ e. absurd cc) (λ e. absurd cc)

  tls_request : (bytes : List ℕ) → says_now 4 (now.AtFirst true false) bytes ≡ said_before 3 (before.AtFirst true false) bytes
  tls_request bytes = front_first 1 true false (first_front bytes) (λ e. absurd cc) (λ e rest. both_requests rest)

  gss_request : (bytes : List ℕ) → says_now 4 (now.AtFirst false true) bytes ≡ said_before 3 (before.AtFirst false true) bytes
  gss_request bytes = front_first 1 false true (first_front bytes) (λ e rest. both_requests rest) (λ e. absurd cc)

  no_request : (bytes : List ℕ) → says_now 5 (now.AtFirst false false) bytes ≡ said_before 4 (before.AtFirst false false) bytes
  no_request bytes = front_first 2 false false (first_front bytes) (λ e rest. tls_request rest) (λ e rest. gss_request rest)

pub logins_are_as_before : LoginsAreAsBefore
logins_are_as_before rows word bytes none = no_request rows word none bytes
