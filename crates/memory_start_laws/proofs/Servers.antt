-- A stand-in server in memory can be started.
use Rattle.std.proofs.Common.{◌≡◌, ℕ, Bool, true, Option, Some, None, List, [], ◌∷◌, length, refl, ap, arith}
use Rattle.std.specs.Prelude.{if◌then◌else◌, is_some, option_map}
use Rattle.message_view.specs.Reading.{authentication_of, int32_at}
use Rattle.message_view.specs.Bodies.{Text, text}
use Rattle.message_view.specs.declared.kinds.TheConstants.{ASKS_CLEARTEXT, ASKS_MD5}
use Rattle.user_file.specs.declared.secrets.Secret.{Secret}
use Rattle.user_file.specs.declared.secrets.Secret.TheVariants as secrets
use Rattle.user_file.specs.Secrets.{answer, answers_md5}
use Rattle.credentials.specs.Credentials.{CredentialOf}
use Rattle.link_model.specs.Stages.{asks, asks_once, let_in}
use Rattle.memory_ends.specs.declared.memory_server.ServerAuth.TheVariants.{Trust, Plain, Md5}
use Rattle.link_start.specs.declared.start_reply.StartProgress.TheVariants.{Nothing, Asked, LetIn}
use Rattle.link_start.specs.declared.start_reply.ServerQuestion.{ServerQuestion}
use Rattle.link_start.specs.declared.start_reply.ServerQuestion.TheVariants as question
use Rattle.link_start.specs.Questions.{answer_to, password_of}
use Rattle.link_start.specs.StartReply.{after_question, heard_by}
use Rattle.link_start.specs.Starts.{AsksQuestions}
use Rattle.memory_start_laws.specs.Starts.{MemoryServersCanStart}

trusts : (c : CredentialOf) → heard_by c Nothing let_in ≡ LetIn
unfolding authentication_of int32_at
trusts c = refl

cleartext : (c : CredentialOf) → heard_by c Nothing (asks (record { kind = ASKS_CLEARTEXT; more = [] })) ≡ Asked question.Cleartext
unfolding authentication_of int32_at
cleartext c = refl

salted : (c : CredentialOf) (w x y z : ℕ) → heard_by c Nothing (asks (record { kind = ASKS_MD5; more = w ∷ x ∷ y ∷ z ∷ [] })) ≡ Asked (question.Md5 (w ∷ x ∷ y ∷ z ∷ []))
unfolding authentication_of int32_at
salted c w x y z = refl

-- AuthenticationOk behind the right answer
some_text : (o : Option Text) (body : List ℕ) → option_map text o ≡ Some body → is_some o ≡ true
some_text (Some t) body e = refl
some_text None body e = absurd cc

behind_password : (c : CredentialOf) (user : Text) (body : List ℕ) → answer_to c user question.Cleartext ≡ Some body → heard_by c (Asked question.Cleartext) let_in ≡ LetIn
unfolding authentication_of int32_at
behind_password c user body e = ap (λ (b : Bool). if b then after_question c question.Cleartext let_in else Asked question.Cleartext) (some_text (password_of c.secret) body e)

behind_digest : (c : CredentialOf) (user salt body : List ℕ) → answer_to c user (question.Md5 salt) ≡ Some body → heard_by c (Asked (question.Md5 salt)) let_in ≡ LetIn
unfolding authentication_of int32_at
behind_digest c user salt body e = ap (λ (b : Bool). if b then after_question c (question.Md5 salt) let_in else Asked (question.Md5 salt)) (digest_of c.secret e)
  where
    digest_of : (secret : Secret) → option_map text (answer secret user salt) ≡ Some body → answers_md5 secret ≡ true
    digest_of (secrets.Plain password) h = refl
    digest_of (secrets.Md5 own) h = refl
    digest_of (secrets.Scram verifier) h = absurd cc
    digest_of secrets.Unusable h = absurd cc

asks_password : (body : List ℕ) (c : CredentialOf) (user : Text) → AsksQuestions c user (asks_once ASKS_CLEARTEXT [] body)
asks_password body c user = (question.Cleartext, cleartext c, behind_password c user body)

asks_digest : (salt body : List ℕ) → length salt ≡ 4 → (c : CredentialOf) (user : Text) → AsksQuestions c user (asks_once ASKS_MD5 salt body)
asks_digest (w ∷ x ∷ y ∷ z ∷ []) body h c user = (question.Md5 (w ∷ x ∷ y ∷ z ∷ []), salted c w x y z, behind_digest c user (w ∷ x ∷ y ∷ z ∷ []) body)
asks_digest [] body h c user = absurd (omega (arith, h))
asks_digest (w ∷ []) body h c user = absurd (omega (arith, h))
asks_digest (w ∷ x ∷ []) body h c user = absurd (omega (arith, h))
asks_digest (w ∷ x ∷ y ∷ []) body h c user = absurd (omega (arith, h))
asks_digest (w ∷ x ∷ y ∷ z ∷ v ∷ more) body h c user = absurd (omega (arith, h))

pub can_start : MemoryServersCanStart
can_start v Trust cut left lawful s = λ c user _. record { is_new = record { stage = refl; inbox = refl; outbox = refl; lawful = lawful }; in_frame = (tt, tt); questions = trusts c }
can_start v (Plain password) cut left lawful s = λ c user _. record {
  is_new = record { stage = refl; inbox = refl; outbox = refl; lawful = lawful };
  in_frame = ((record { of_type = refl; size = omega arith }, tt), tt);
  questions = asks_password _ c user;
}
can_start v (Md5 salt answer) cut left lawful s = λ c user _. record {
  is_new = record { stage = refl; inbox = refl; outbox = refl; lawful = lawful };
  in_frame = ((record { of_type = refl; size = omega (arith, s) }, tt), tt);
  questions = asks_digest salt _ s c user;
}
