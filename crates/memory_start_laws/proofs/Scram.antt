-- What a server asks by SCRAM are questions.
use Rattle.std.proofs.Common.{◌≡◌, ◌∙◌, Bool, true, false, Option, Some, None, List, [], ◌∷◌, refl, sym, ap}
use Rattle.std.specs.Prelude.{◌&&◌, if◌then◌else◌, bytes_eq}
use Rattle.std.proofs.lemmas.Slice.Eq.{bytes_eq-Decides}
use Rattle.message_view.specs.Reading.{authentication_of, int32_at}
use Rattle.message_view.specs.Bodies.{Text}
use Rattle.user_file.specs.declared.secrets.Secret.{Secret}
use Rattle.user_file.specs.declared.secrets.Secret.TheVariants as secrets
use Rattle.credentials.specs.Credentials.{CredentialOf, first_response, has_client_key}
use Rattle.credentials.specs.Exchanges.{ExchangeOf, exchange_of, exchange_over}
use Rattle.frame_view.specs.Frames.{FrameOf}
use Rattle.session_values.specs.State.{fresh}
use Rattle.link_model.specs.Dialogues.{answer_message, start_error, start_refusal}
use Rattle.link_model.specs.Stages.{Round, asks, is_answer, let_in, wrong_password}
use Rattle.link_run.specs.Dialogues.{offers_scram}
use Rattle.link_run.specs.declared.sasl.TheConstants.{ASKS_SASL, SASL_CONTINUES, SASL_ENDS}
use Rattle.link_start.specs.declared.start_reply.StartProgress.{StartProgress}
use Rattle.link_start.specs.declared.start_reply.StartProgress.TheVariants.{Nothing, Asked, Proved, LetIn, Other}
use Rattle.link_start.specs.declared.start_reply.ServerQuestion.{ServerQuestion}
use Rattle.link_start.specs.declared.start_reply.ServerQuestion.TheVariants.{Scram, Challenge}
use Rattle.link_start.specs.StartReply.{after_question, challenged, heard_by, offered}
use Rattle.link_start.specs.Questions.{if_answered}
use Rattle.link_start.specs.Starts.{AsksQuestions, answers_from, answers_heard, given_to, own_answers}
use Rattle.memory_start_laws.specs.Scram.{ScramServersCanStart, ScramServersLetIn, asks_scram, round, tells}

mechanisms : (c : CredentialOf) (names : Text) → heard_by c Nothing (asks (tells ASKS_SASL names)) ≡ offered (offers_scram names)
unfolding authentication_of int32_at
mechanisms c names = refl

-- who has an exchange has a password or a client key
client_key : (secret : Secret) (revealed : Option Text) (nonce challenge : Text) (own : ExchangeOf) → exchange_over secret revealed nonce challenge ≡ Some own → has_client_key secret revealed ≡ true
client_key (secrets.Plain text) revealed nonce challenge own e = refl
client_key (secrets.Md5 digits) revealed nonce challenge own e = absurd cc
client_key (secrets.Scram verifier) None nonce challenge own e = absurd cc
client_key (secrets.Scram verifier) (Some client) nonce challenge own e = refl
client_key secrets.Unusable revealed nonce challenge own e = absurd cc

answerable : (c : CredentialOf) (challenge : Text) (own : ExchangeOf) → exchange_of c challenge ≡ Some own → has_client_key c.secret c.revealed ≡ true
unfolding exchange_of
answerable c challenge own e = client_key c.secret c.revealed c.nonce challenge own e

behind_first : (c : CredentialOf) (challenge : Text) → after_question c Scram (asks (tells SASL_CONTINUES challenge)) ≡ challenged (exchange_of c challenge)
unfolding authentication_of int32_at
behind_first c challenge = refl

challenges : (c : CredentialOf) (challenge : Text) (own : ExchangeOf) → exchange_of c challenge ≡ Some own → heard_by c (Asked Scram) (asks (tells SASL_CONTINUES challenge)) ≡ Asked (Challenge own)
challenges c challenge own e =
    ap (λ (b : Bool). if b then after_question c Scram (asks (tells SASL_CONTINUES challenge)) else Asked Scram) (answerable c challenge own e)
    ∙ behind_first c challenge ∙ ap challenged e

behind_last : (c : CredentialOf) (own : ExchangeOf) (proof : Text) → heard_by c (Asked (Challenge own)) (asks (tells SASL_ENDS proof)) ≡ (if bytes_eq proof own.proof then Proved else Other)
unfolding authentication_of int32_at
behind_last c own proof = refl

same-bytes : (x y : Text) → x ≡ y → bytes_eq x y ≡ true
same-bytes x y e = (bytes_eq-Decides x y).1 e

proves : (c : CredentialOf) (own : ExchangeOf) (proof : Text) → own.proof ≡ proof → heard_by c (Asked (Challenge own)) (asks (tells SASL_ENDS proof)) ≡ Proved
proves c own proof e = behind_last c own proof ∙ ap (λ (b : Bool). if b then Proved else Other) (same-bytes proof own.proof (sym e))

lets_in : (c : CredentialOf) → heard_by c Proved let_in ≡ LetIn
unfolding authentication_of int32_at
lets_in c = refl

some_same : (x y : Text) → Some x ≡ Some y → x ≡ y
some_same x y e = ap (λ (o : Option Text). or_own o) e
  where
    or_own : Option Text → Text
    or_own (Some z) = z
    or_own None = x

asks_on : (c : CredentialOf) (user names challenge : Text) (own servers : ExchangeOf) → offers_scram names ≡ true → exchange_of c challenge ≡ Some own → (own.last ≡ servers.last → own.proof ≡ servers.proof) → AsksQuestions c user (asks_scram c names challenge servers)
asks_on c user names challenge own servers o e same =
    (Scram, mechanisms c names ∙ ap offered o, λ first. (Challenge own, challenges c challenge own e, λ last. (proves c own servers.proof (same (some_same own.last servers.last last)), lets_in c)))

pub can_start : ScramServersCanStart
can_start v cut left c user names challenge own servers lawful frames o e same _ = record {
  is_new = record { stage = refl; inbox = refl; outbox = refl; lawful = lawful };
  in_frame = frames;
  questions = asks_on c user names challenge own servers o e same;
}

right : (answer : Text) → is_answer answer (answer_message answer) ≡ true
right answer = same-bytes answer answer refl

-- the user's two messages
own_two : (c : CredentialOf) (user names challenge : Text) (own : ExchangeOf) → offers_scram names ≡ true → exchange_of c challenge ≡ Some own
    → own_answers c user (asks_scram c names challenge own) ≡ (first_response c).body ∷ (own.last ∷ [])
own_two c user names challenge own o e =
    let last : Round = round SASL_CONTINUES challenge own.last in
    ap (λ (h : StartProgress). answers_heard c user h (λ (q : ServerQuestion). answers_from c user (Asked q) (last ∷ []))) (mechanisms c names ∙ ap offered o)
    ∙ ap (λ (b : Bool). given_to (if_answered b (first_response c).body) (answers_from c user (Asked Scram) (last ∷ []))) (answerable c challenge own e)
    ∙ ap (λ (h : StartProgress). (first_response c).body ∷ answers_heard c user h (λ (q : ServerQuestion). answers_from c user (Asked q) [])) (challenges c challenge own e)

pub let_in_by_scram : ScramServersLetIn
let_in_by_scram v cut left c names challenge own key o e =
    let error : Option FrameOf = start_error (fresh v.catalogue key) in
    let first : Text = (first_response c).body in
    ap (λ (given : List Text). start_refusal v (asks_scram c names challenge own) key given) (own_two c key.user names challenge own o e)
    ∙ ap (λ (b : Bool). if b then (if is_answer own.last (answer_message own.last) then error else Some wrong_password) else Some wrong_password) (right first)
    ∙ ap (λ (b : Bool). if b then error else Some wrong_password) (right own.last)
