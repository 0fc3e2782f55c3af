-- What a user answers to a server's question.
use Rattle.std.specs.Prelude.{◌≡◌, ℕ, Bool, true, false, List, ◌++◌, Option, Some, None, Result, Ok, Err, is_some, option_map, ◌==◌, if◌then◌else◌}
use Rattle.std.specs.List.{list_any}
use Rattle.frame_view.specs.Frames.{FrameOf, spelling}
use Rattle.message_view.specs.declared.kinds.TheConstants.{ASKS_CLEARTEXT, ASKS_MD5}
use Rattle.link_run.specs.declared.sasl.TheConstants.{ASKS_SASL, SASL_CONTINUES}
use Rattle.message_view.specs.Bodies.{Text, text}
use Rattle.bytes.specs.Filled.{Filled}
use Rattle.message_view.specs.Parts.{FitsLength}
use Rattle.user_file.specs.declared.secrets.Secret.{Secret}
use Rattle.user_file.specs.declared.secrets.Secret.TheVariants as secrets
use Rattle.user_file.specs.Secrets.{answer, answers_md5}
use Rattle.credentials.specs.Credentials.{CredentialOf, answers_scram, first_response}
use Rattle.link_model.specs.Dialogues.{answer_message}
use Rattle.link_start.specs.declared.start_reply.ServerQuestion.{ServerQuestion}
use Rattle.link_start.specs.declared.start_reply.ServerQuestion.TheVariants.{Cleartext, Md5, Scram, Challenge, Unknown}

abbrev pub with_zero : Text → Bool
with_zero t = list_any (λ b. b == 0) t

-- the password itself, where the secret keeps it and a message can spell it
abbrev pub password_of : Secret → Option Text
password_of (secrets.Plain password) = if with_zero password then None else Some password
password_of (secrets.Md5 digits) = None
password_of (secrets.Scram verifier) = None
password_of secrets.Unusable = None

abbrev pub if_answered : Bool → List ℕ → Option (List ℕ)
if_answered true body = Some body
if_answered false body = None

-- the body of this user's answer; none where it can't answer
abbrev pub answer_to : CredentialOf → Text → ServerQuestion → Option (List ℕ)
answer_to c user Cleartext = option_map text (password_of c.secret)
answer_to c user (Md5 salt) = option_map text (answer c.secret user salt)
answer_to c user Scram = if_answered (answers_scram c) (first_response c).body
answer_to c user (Challenge exchange) = Some exchange.last
answer_to c user (Unknown kind) = None

abbrev pub can_answer : CredentialOf → ServerQuestion → Bool
can_answer c Cleartext = is_some (password_of c.secret)
can_answer c (Md5 salt) = answers_md5 c.secret
can_answer c Scram = answers_scram c
can_answer c (Challenge exchange) = true
can_answer c (Unknown kind) = false

-- how many answers it takes: a challenge comes behind the answer to the question that named the mechanism
abbrev pub answers_wanted : ServerQuestion → ℕ
answers_wanted Cleartext = 1
answers_wanted (Md5 salt) = 1
answers_wanted Scram = 1
answers_wanted (Challenge exchange) = 2
answers_wanted (Unknown kind) = 1

-- the number of the Authentication message that asks it
abbrev pub number_of : ServerQuestion → ℕ
number_of Cleartext = ASKS_CLEARTEXT
number_of (Md5 salt) = ASKS_MD5
number_of Scram = ASKS_SASL
number_of (Challenge exchange) = SASL_CONTINUES
number_of (Unknown kind) = kind

-- the answer was put behind what was there, and its length fits its field; or there is none, or no memory, and nothing was put
abbrev pub PutsIf : Bool → Filled → Filled → Option (List ℕ) → Type 0
PutsIf true old new (Some body) = (new.items ≡ old.items ++ spelling (answer_message body)) × FitsLength (answer_message body)
PutsIf true old new None = ⊥
PutsIf false old new (Some body) = ⊥
PutsIf false old new None = new.items ≡ old.items

abbrev pub PutsAnswer : {E : Type 0} → Result Bool E → Filled → Filled → Option (List ℕ) → Type 0
PutsAnswer (Ok put) old new body = PutsIf put old new body
PutsAnswer (Err e) old new body = new.items ≡ old.items
