-- The key with which a login ends whose client asks to cancel: it stands in the CancelRequest.
use Rattle.std.proofs.Common.{◌≡◌, ℕ, zero, suc, ◌+◌, List, [], ◌∷◌, ◌++◌, length, Option, Some, None, Result, Ok, Err, refl, ap, ◌∙◌, sym, subst, Bool, true, false, arith, append_assoc, get_or-append-add}
use Rattle.std.specs.Prelude.{if◌then◌else◌, ◌==◌, bytes_eq, codes}
use Rattle.frame_view.specs.Frames.{AreBytes, FirstOf, Start, Cancels, AsksTls, AsksGss, FirstFront, AFirst, LacksFirst, FaultyFirst, Front, AFrame, Lacks, Faulty, first_front, first_spelling, front}
use Rattle.frame_view.specs.Laws.{FirstReadIsSpelled}
use Rattle.frame_view.specs.declared.Side.TheVariants.{Client}
use Rattle.frame_view.specs.declared.client.TheConstants.{PASSWORD_MESSAGE, TERMINATE}
use Rattle.message_view.specs.declared.KeyWord.{KeyWord}
use Rattle.message_view.specs.declared.ViewError.{ViewError}
use Rattle.message_view.specs.declared.refusal.Refusal.{Refusal}
use Rattle.message_view.specs.Reading.{startup_of, password_of}
use Rattle.ini_config.specs.declared.database_rows.DbRow.{DbRow}
use Rattle.ini_config.specs.declared.option_values.AuthType.{AuthType}
use Rattle.ini_config.specs.declared.option_values.AuthType.TheVariants.{Trust, Plain, Md5, ScramSha256}
use Rattle.scram.specs.Keys.{auth_message}
use Rattle.scram.specs.Messages.{FirstOf as FirstText, LastOf as LastText, first_of, last_of}
use Rattle.scram.specs.Wire.{initial_response_of}
use Rattle.session_values.specs.State.{StartKeyOf}
use Rattle.param_track.specs.StartKeys.{Text}
use Rattle.key_laws.proofs.Choices.{choose}
use Rattle.login_core.specs.Talk.{End, follow, on_cut, talk}
use Rattle.login_core.specs.Talk.Reaction.{Goes, Passes, Stops}
use Rattle.login_core.specs.Talk.End.{Unfinished, Passed, Stopped}
use Rattle.login_core.specs.Dialogue.{LoginRow, Rows, Reason, Refused, Failed, Left, Cancelling, Way, to_answer, to_first_message, to_initial, to_last, by_proof, if_proved, proof_by, keys, challenge_to, joint_nonce, has_verifier, offers_scram, asks_md5, Asking, ForPassword, ForFirst, ForLast, Stage, AtFirst, Asked, Reacts, packet, of_first, of_front, longest_message, react, to_message, to_password, to_console, to_database, begins, asks, judged, admitted, is_right, enters_console, wrong, malformed, not_twice, key_of}
use Rattle.login_laws.specs.Cancels.{CancelKeysAreSent, HasCancelRequest}

-- ---- what ends otherwise

abbrev IsOtherEnd : End Way Reason → Type 0
IsOtherEnd Unfinished = Unit {0}
IsOtherEnd (Passed way left) = Unit {0}
IsOtherEnd (Stopped (Refused refusal)) = Unit {0}
IsOtherEnd (Stopped Failed) = Unit {0}
IsOtherEnd (Stopped Left) = Unit {0}
IsOtherEnd (Stopped (Cancelling key)) = ⊥

abbrev IsAsked : Stage → Type 0
IsAsked (Asked asking key) = Unit {0}
IsAsked (AtFirst tls gss) = ⊥

-- a reaction that ends otherwise, or asks
abbrev IsOther : Reacts → Type 0
IsOther (Goes pieces stage) = IsAsked stage
IsOther (Passes pieces way) = Unit {0}
IsOther (Stops pieces reason) = IsOtherEnd (Stopped reason)

module _ (rows : Rows) (word : KeyWord) where
  console_other : (proof : List ℕ) (b : Bool) → IsOther (to_console proof b)
  console_other proof true = tt
  console_other proof false = tt

  database_other : (proof : List ℕ) (row : Option DbRow) (key : StartKeyOf) → IsOther (to_database proof row key)
  database_other proof None key = tt
  database_other proof (Some row) key = tt

  admitted_other : (proof : List ℕ) (row : LoginRow) (key : StartKeyOf) → IsOther (admitted proof row key)
  admitted_other proof row key =
      choose IsOther (bytes_eq key.row (codes "pgbouncer")) (to_console proof (enters_console row key.user)) (to_database proof row.database key) (λ f. console_other proof (enters_console row key.user)) (λ f. database_other proof row.database key)

  judged_other : (row : LoginRow) (key : StartKeyOf) (given : Text) → IsOther (judged row word key given)
  judged_other row key given =
      choose IsOther (is_right row word key given) (admitted [] row key) wrong (λ e. admitted_other [] row key) (λ e. tt)

  asks_other : (auth : AuthType) (row : LoginRow) (key : StartKeyOf) → IsOther (asks auth row word key)
  asks_other Trust row key = judged_other row key []
  asks_other Plain row key = tt
  asks_other Md5 row key = choose IsOther (has_verifier row.user) (offers_scram key) (Goes (asks_md5 word.salt ∷ []) (Asked ForPassword key)) (λ e. tt) (λ e. tt)
  asks_other ScramSha256 row key = tt

  begins_other : (r : Result StartKeyOf Refusal) → IsOther (begins rows word r)
  begins_other (Ok key) = asks_other (rows key.row key.user).auth (rows key.row key.user) key
  begins_other (Err refusal) = tt

  password_other : (row : LoginRow) (key : StartKeyOf) (r : Result Text ViewError) → IsOther (to_password row word key r)
  password_other row key (Ok given) = judged_other row key given
  password_other row key (Err fault) = tt

  first_other : (row : LoginRow) (key : StartKeyOf) (text : Text) (first : Option FirstText) → IsOther (to_first_message row word key text first)
  first_other row key text None = tt
  first_other row key text (Some first) = tt

  initial_other : (row : LoginRow) (key : StartKeyOf) (text : Option Text) → IsOther (to_initial row word key text)
  initial_other row key None = tt
  initial_other row key (Some text) = first_other row key text (first_of text)

  proved_other : (row : LoginRow) (key : StartKeyOf) (proof : Option (List ℕ)) → IsOther (if_proved row key proof)
  proved_other row key None = tt
  proved_other row key (Some proof) = admitted_other proof row key

  proof_other : (row : LoginRow) (key : StartKeyOf) (first : FirstText) (last : Option LastText) → IsOther (by_proof row word key first last)
  proof_other row key first None = tt
  proof_other row key first (Some last) = proved_other row key (proof_by (keys row key) (auth_message first.bare (challenge_to row word key first) last.unproved) last.proof)

  last_other : (row : LoginRow) (key : StartKeyOf) (text : Text) (first : Option FirstText) → IsOther (to_last row word key text first)
  last_other row key text None = tt
  last_other row key text (Some first) = proof_other row key first (last_of first.header (joint_nonce word first) text)

  answer_other : (row : LoginRow) (key : StartKeyOf) (asking : Asking) (body : List ℕ) → IsOther (to_answer row word key asking body)
  answer_other row key ForPassword body = password_other row key (password_of body)
  answer_other row key ForFirst body = initial_other row key (initial_response_of body)
  answer_other row key (ForLast first) body = last_other row key body (first_of first)

  message_other : (row : LoginRow) (key : StartKeyOf) (asking : Asking) (kind : ℕ) (body : List ℕ) → IsOther (to_message row word key asking kind body)
  message_other row key asking kind body =
      choose IsOther (kind == PASSWORD_MESSAGE) (to_answer row word key asking body) (if kind == TERMINATE then Stops [] Left else malformed)
      (λ e. answer_other row key asking body) (λ e. choose IsOther (kind == TERMINATE) (Stops [] Left) malformed (λ f. tt) (λ f. tt))

  follow_other : (n : ℕ) (rest : List ℕ) (r : Reacts) → ((asking : Asking) (key : StartKeyOf) → IsOtherEnd (talk packet (react rows word) n (Asked asking key) rest).ended) → IsOther r → IsOtherEnd (follow rest (λ s. talk packet (react rows word) n s rest) r).ended
  follow_other n rest (Goes pieces (Asked asking key)) asked h = asked asking key
  follow_other n rest (Goes pieces (AtFirst tls gss)) asked h = absurd h
  follow_other n rest (Passes pieces way) asked h = tt
  follow_other n rest (Stops pieces reason) asked h = h

  front_other : (n : ℕ) (asking : Asking) (key : StartKeyOf) (f : Front) → ((rest : List ℕ) (a : Asking) (k : StartKeyOf) → IsOtherEnd (talk packet (react rows word) n (Asked a k) rest).ended)
      → IsOtherEnd (on_cut (react rows word (Asked asking key)) (talk packet (react rows word) n) (of_front f)).ended
  front_other n asking key (AFrame kind body rest) asked = follow_other n rest (to_message (rows key.row key.user) word key asking kind body) (asked rest) (message_other (rows key.row key.user) key asking kind body)
  front_other n asking key (Lacks m) asked = tt
  front_other n asking key (Faulty fault) asked = tt

  -- once it was asked
  asked_other : (n : ℕ) (bytes : List ℕ) (asking : Asking) (key : StartKeyOf) → IsOtherEnd (talk packet (react rows word) n (Asked asking key) bytes).ended
  asked_other zero bytes asking key = tt
  asked_other (suc n) bytes asking key = front_other n asking key (front Client longest_message bytes) (λ rest a k. asked_other n rest a k)

-- ---- what is said to first packets

abbrev Heard : List ℕ → End Way Reason → Type 0
Heard bytes Unfinished = Unit {0}
Heard bytes (Passed way left) = Unit {0}
Heard bytes (Stopped (Refused refusal)) = Unit {0}
Heard bytes (Stopped Failed) = Unit {0}
Heard bytes (Stopped Left) = Unit {0}
Heard bytes (Stopped (Cancelling key)) = HasCancelRequest key bytes

other_heard : (bytes : List ℕ) (e : End Way Reason) → IsOtherEnd e → Heard bytes e
other_heard bytes Unfinished h = tt
other_heard bytes (Passed way left) h = tt
other_heard bytes (Stopped (Refused refusal)) h = tt
other_heard bytes (Stopped Failed) h = tt
other_heard bytes (Stopped Left) h = tt
other_heard bytes (Stopped (Cancelling key)) h = absurd h

-- behind a request for encryption
behind_heard : (bytes request rest : List ℕ) (e : End Way Reason) → bytes ≡ request ++ rest → Heard rest e → Heard bytes e
behind_heard bytes request rest Unfinished s h = tt
behind_heard bytes request rest (Passed way left) s h = tt
behind_heard bytes request rest (Stopped (Refused refusal)) s h = tt
behind_heard bytes request rest (Stopped Failed) s h = tt
behind_heard bytes request rest (Stopped Left) s h = tt
behind_heard bytes request rest (Stopped (Cancelling key)) s h = record {
  before = request ++ h.before;
  behind = h.behind;
  bytes_are = s ∙ ap (λ (l : List ℕ). request ++ l) h.bytes_are ∙ sym (append_assoc request h.before _);
}

bytes_behind : (request rest : List ℕ) → AreBytes (request ++ rest) → AreBytes rest
bytes_behind request rest fits i = omega (arith, fits (length request + i), get_or-append-add request rest i 0)

module _ (read : FirstReadIsSpelled) (rows : Rows) (word : KeyWord) where
  abbrev said : ℕ → Stage → List ℕ → End Way Reason
  said n stage bytes = (talk packet (react rows word) n stage bytes).ended

  once_heard : (n : ℕ) (twice tls gss : Bool) (bytes rest : List ℕ) (p : FirstOf) → AreBytes bytes → first_front bytes ≡ AFirst p rest → ((t g : Bool) (more : List ℕ) → AreBytes more → Heard more (said n (AtFirst t g) more))
      → Heard bytes (follow rest (λ s. talk packet (react rows word) n s rest) (not_twice twice (AtFirst tls gss))).ended
  once_heard n true tls gss bytes rest p fit e again = tt
  once_heard n false tls gss bytes rest p fit e again =
      let s = (read bytes p rest fit e).0 in
      behind_heard bytes (first_spelling p) rest (said n (AtFirst tls gss) rest) s (again tls gss rest (bytes_behind (first_spelling p) rest (subst AreBytes s fit)))

  front_heard : (n : ℕ) (tls gss : Bool) (bytes : List ℕ) (f : FirstFront) → AreBytes bytes → first_front bytes ≡ f → ((t g : Bool) (more : List ℕ) → AreBytes more → Heard more (said n (AtFirst t g) more))
      → Heard bytes (on_cut (react rows word (AtFirst tls gss)) (talk packet (react rows word) n) (of_first f)).ended
  front_heard n tls gss bytes (AFirst (Start text) rest) fit e again =
      other_heard bytes _ (follow_other rows word n rest (begins rows word (key_of rows (startup_of text))) (asked_other rows word n rest) (begins_other rows word (key_of rows (startup_of text))))
  front_heard n tls gss bytes (AFirst (Cancels pid secret) rest) fit e again = record { before = []; behind = rest; bytes_are = (read bytes (Cancels pid secret) rest fit e).0 }
  front_heard n tls gss bytes (AFirst AsksTls rest) fit e again = once_heard n tls true gss bytes rest AsksTls fit e again
  front_heard n tls gss bytes (AFirst AsksGss rest) fit e again = once_heard n gss tls true bytes rest AsksGss fit e again
  front_heard n tls gss bytes (LacksFirst m) fit e again = tt
  front_heard n tls gss bytes (FaultyFirst fault) fit e again = tt

  first_heard : (n : ℕ) (tls gss : Bool) (bytes : List ℕ) → AreBytes bytes → Heard bytes (said n (AtFirst tls gss) bytes)
  first_heard zero tls gss bytes fit = tt
  first_heard (suc n) tls gss bytes fit = front_heard n tls gss bytes (first_front bytes) fit refl (λ t g more k. first_heard n t g more k)

pub cancel_keys_are_sent : FirstReadIsSpelled → CancelKeysAreSent
cancel_keys_are_sent read rows word bytes key fit e = subst (Heard bytes) e (first_heard read rows word 5 false false bytes fit)
