-- Which reactions are the last.
use Rattle.std.proofs.Common.{◌≡◌, refl, ℕ, List, [], Bool, true, false, Option, Some, None, Result, Ok, Err}
use Rattle.std.specs.Prelude.{if◌then◌else◌, bytes_eq, codes}
use Rattle.scram.specs.Messages.{FirstOf, LastOf, first_of, last_of}
use Rattle.scram.specs.Keys.{auth_message}
use Rattle.scram.specs.Wire.{initial_response_of}
use Rattle.ini_config.specs.declared.database_rows.DbRow.{DbRow}
use Rattle.message_view.specs.declared.KeyWord.{KeyWord}
use Rattle.message_view.specs.declared.ViewError.{ViewError}
use Rattle.session_values.specs.State.{StartKeyOf}
use Rattle.param_track.specs.StartKeys.{Text}
use Rattle.login_core.specs.Talk.Reaction.{Goes, Passes, Stops}
use Rattle.message_view.specs.Reading.{password_of}
use Rattle.login_core.specs.Dialogue.{LoginRow, Reacts, Left, AtFirst, Asked, Asking, ForPassword, ForFirst, ForLast, judged, is_right, enters_console, admitted, to_answer, to_console, to_database, to_first_message, to_initial, to_last, to_password, by_proof, if_proved, proof_by, keys, challenge_to, joint_nonce, malformed, wrong}

abbrev pub Ends : Reacts → Type 0
Ends (Goes pieces t) = ⊥
Ends (Passes pieces key) = Unit {0}
Ends (Stops pieces reason) = Unit {0}

-- a question that no other follows
abbrev pub IsLast : Asking → Type 0
IsLast ForPassword = Unit {0}
IsLast ForFirst = ⊥
IsLast (ForLast first) = Unit {0}

-- a reaction that is the last, or asks what no other question follows
abbrev pub EndsSoon : Reacts → Type 0
EndsSoon (Goes pieces (AtFirst tls gss)) = ⊥
EndsSoon (Goes pieces (Asked asking key)) = IsLast asking
EndsSoon (Passes pieces key) = Unit {0}
EndsSoon (Stops pieces reason) = Unit {0}

-- it goes on, if at all, by a question to the client of this key
abbrev pub GoesBy : StartKeyOf → Reacts → Type 0
GoesBy key (Goes pieces (AtFirst tls gss)) = ⊥
GoesBy key (Goes pieces (Asked asking k)) = k ≡ key
GoesBy key (Passes pieces way) = Unit {0}
GoesBy key (Stops pieces reason) = Unit {0}

module _ (word : KeyWord) where
  console_ends : (proof : List ℕ) (b : Bool) → Ends (to_console proof b)
  console_ends proof true = tt
  console_ends proof false = tt

  database_ends : (proof : List ℕ) (d : Option DbRow) (key : StartKeyOf) → Ends (to_database proof d key)
  database_ends proof None key = tt
  database_ends proof (Some row) key = tt

  admits : (proof : List ℕ) (row : LoginRow) (key : StartKeyOf) (b : Bool) → Ends (if b then to_console proof (enters_console row key.user) else to_database proof row.database key)
  admits proof row key true = console_ends proof (enters_console row key.user)
  admits proof row key false = database_ends proof row.database key

  admitted_ends : (proof : List ℕ) (row : LoginRow) (key : StartKeyOf) → Ends (admitted proof row key)
  admitted_ends proof row key = admits proof row key (bytes_eq key.row (codes "pgbouncer"))

  judges : (row : LoginRow) (key : StartKeyOf) (b : Bool) → Ends (if b then admitted [] row key else wrong)
  judges row key true = admitted_ends [] row key
  judges row key false = tt

  pub judged_ends : (row : LoginRow) (key : StartKeyOf) (given : Text) → Ends (judged row word key given)
  judged_ends row key given = judges row key (is_right row word key given)

  password_ends : (row : LoginRow) (key : StartKeyOf) (given : Result Text ViewError) → Ends (to_password row word key given)
  password_ends row key (Err fault) = tt
  password_ends row key (Ok given) = judged_ends row key given

  proved_ends : (row : LoginRow) (key : StartKeyOf) (proof : Option (List ℕ)) → Ends (if_proved row key proof)
  proved_ends row key None = tt
  proved_ends row key (Some proof) = admitted_ends proof row key

  proof_ends : (row : LoginRow) (key : StartKeyOf) (first : FirstOf) (last : Option LastOf) → Ends (by_proof row word key first last)
  proof_ends row key first None = tt
  proof_ends row key first (Some last) = proved_ends row key (proof_by (keys row key) (auth_message first.bare (challenge_to row word key first) last.unproved) last.proof)

  last_ends : (row : LoginRow) (key : StartKeyOf) (text : Text) (first : Option FirstOf) → Ends (to_last row word key text first)
  last_ends row key text None = tt
  last_ends row key text (Some first) = proof_ends row key first (last_of first.header (joint_nonce word first) text)

  -- the answer to a last question is the last packet
  pub answer_ends : (row : LoginRow) (key : StartKeyOf) (asking : Asking) (body : List ℕ) → IsLast asking → Ends (to_answer row word key asking body)
  answer_ends row key ForPassword body h = password_ends row key (password_of body)
  answer_ends row key ForFirst body h = absurd h
  answer_ends row key (ForLast first) body h = last_ends row key body (first_of first)

  first_soon : (row : LoginRow) (key : StartKeyOf) (text : Text) (first : Option FirstOf) → EndsSoon (to_first_message row word key text first)
  first_soon row key text None = tt
  first_soon row key text (Some first) = tt

  initial_soon : (row : LoginRow) (key : StartKeyOf) (text : Option Text) → EndsSoon (to_initial row word key text)
  initial_soon row key None = tt
  initial_soon row key (Some text) = first_soon row key text (first_of text)

  ends_soon : (r : Reacts) → Ends r → EndsSoon r
  ends_soon (Goes pieces s) h = absurd h
  ends_soon (Passes pieces key) h = tt
  ends_soon (Stops pieces reason) h = tt

  -- and after every other at most one more comes
  pub answer_soon : (row : LoginRow) (key : StartKeyOf) (asking : Asking) (body : List ℕ) → EndsSoon (to_answer row word key asking body)
  answer_soon row key ForPassword body = ends_soon (to_answer row word key ForPassword body) (answer_ends row key ForPassword body tt)
  answer_soon row key ForFirst body = initial_soon row key (initial_response_of body)
  answer_soon row key (ForLast first) body = ends_soon (to_answer row word key (ForLast first) body) (answer_ends row key (ForLast first) body tt)

  pub message_ends : (row : LoginRow) (key : StartKeyOf) (asking : Asking) (p x : Bool) (body : List ℕ) → IsLast asking →
      Ends (if p then to_answer row word key asking body else (if x then Stops [] Left else malformed))
  message_ends row key asking true x body h = answer_ends row key asking body h
  message_ends row key asking false true body h = tt
  message_ends row key asking false false body h = tt

  pub message_soon : (row : LoginRow) (key : StartKeyOf) (asking : Asking) (p x : Bool) (body : List ℕ) →
      EndsSoon (if p then to_answer row word key asking body else (if x then Stops [] Left else malformed))
  message_soon row key asking true x body = answer_soon row key asking body
  message_soon row key asking false true body = tt
  message_soon row key asking false false body = tt

  ends_goes : (key : StartKeyOf) (r : Reacts) → Ends r → GoesBy key r
  ends_goes key (Goes pieces s) h = absurd h
  ends_goes key (Passes pieces way) h = tt
  ends_goes key (Stops pieces reason) h = tt

  first_goes : (row : LoginRow) (key : StartKeyOf) (text : Text) (first : Option FirstOf) → GoesBy key (to_first_message row word key text first)
  first_goes row key text None = tt
  first_goes row key text (Some first) = refl

  initial_goes : (row : LoginRow) (key : StartKeyOf) (text : Option Text) → GoesBy key (to_initial row word key text)
  initial_goes row key None = tt
  initial_goes row key (Some text) = first_goes row key text (first_of text)

  answer_goes : (row : LoginRow) (key : StartKeyOf) (asking : Asking) (body : List ℕ) → GoesBy key (to_answer row word key asking body)
  answer_goes row key ForPassword body = ends_goes key (to_answer row word key ForPassword body) (answer_ends row key ForPassword body tt)
  answer_goes row key ForFirst body = initial_goes row key (initial_response_of body)
  answer_goes row key (ForLast first) body = ends_goes key (to_answer row word key (ForLast first) body) (answer_ends row key (ForLast first) body tt)

  pub message_goes : (row : LoginRow) (key : StartKeyOf) (asking : Asking) (p x : Bool) (body : List ℕ) →
      GoesBy key (if p then to_answer row word key asking body else (if x then Stops [] Left else malformed))
  message_goes row key asking true x body = answer_goes row key asking body
  message_goes row key asking false true body = tt
  message_goes row key asking false false body = tt
