-- What a server that follows answers to a start, and what is heard of it.
use Rattle.std.proofs.Common.{◌≡◌, ◌≢◌, ℕ, Bool, true, false, List, [], ◌∷◌, ◌++◌, map, append_assoc, refl, sym, ap, ◌∙◌, append-nil, arith, subst, Result, Ok, Err, Option, Some, None}
use Rattle.std.specs.Prelude.{if◌then◌else◌}
use Rattle.std.specs.List.{flat_map, AllByRecursion}
use Rattle.frame_view.specs.declared.FrameError.{FrameError}
use Rattle.frame_view.specs.declared.Side.TheVariants.{Server as FromServer}
use Rattle.frame_view.specs.Frames.{FrameOf, AFrame, Faulty, front, spelling}
use Rattle.frame_view.proofs.Cuts.{front-spelling}
use Rattle.frame_view.proofs.Growth.{front-grows}
use Rattle.message_view.specs.Bodies.{Text}
use Rattle.message_view.specs.Messages.{backend_key_data, ready_for_query}
use Rattle.message_view.specs.declared.kinds.TheConstants.{IDLE}
use Rattle.message_view.specs.Reading.{authentication_of, int32_at}
use Rattle.session_values.specs.declared.cause.Cause.{Cause}
use Rattle.session_values.specs.declared.parameter.Parameter.{Parameter}
use Rattle.session_values.specs.Errors.{fatal}
use Rattle.session_values.specs.Lawful.{IsLawfulCatalogue}
use Rattle.session_values.specs.Parameters.{reported_parameters}
use Rattle.session_values.specs.State.{State, StartKeyOf, fresh, all_reports_from}
use Rattle.session_values.specs.Service.{welcome}
use Rattle.credentials.specs.Credentials.{CredentialOf}
use Rattle.session_laws.specs.Starts.{Welcomes}
use Rattle.session_laws.proofs.ByName.{fresh_is_reached, welcome_is_read}
use Rattle.link_model.specs.Stages.{Server, Auth, Question, Round, asks, goes_on, is_answer, let_in, wrong_password, opened, opens}
use Rattle.link_model.specs.Starts.{start_body}
use Rattle.link_model.specs.Dialogues.{answer_message, answer_packets, start_replies, start_error, start_refusal, refusal_of, IsShortReply}
use Rattle.link_model.proofs.ByName.{starts_are_of_their_keys}
use Rattle.link_run.specs.Links.{kept_by}
use Rattle.link_start.specs.declared.start_reply.StartProgress.{StartProgress}
use Rattle.link_start.specs.declared.start_reply.StartProgress.TheVariants.{Nothing, Asked, Proved, LetIn, Ready, Refused, Other}
use Rattle.link_start.specs.declared.start_reply.ServerQuestion.{ServerQuestion}
use Rattle.link_start.specs.Questions.{answer_to, can_answer}
use Rattle.link_run.specs.Dialogues.{reported_all}
use Rattle.link_start.specs.StartReply.{heard_by, heard_all, error_in}
use Rattle.link_start.specs.Starts.{TellsOn, AsksOn, AsksQuestions, AreOwnFrom, AreOwn, IsLinkKey}
use Rattle.link_start.proofs.Hearing.{same_question}
use Rattle.link_start.proofs.Asking.{GoesOn, answerable_next, answered_can, heard_turn, all_said, closed_says, right_is}
use Rattle.link_start.proofs.Reporting.{welcome_reports}
use Rattle.link_start.proofs.Keying.{TellsOwnKey, behind_none, welcome_tells_key}

-- ---- a welcome, and what refuses

welcome_heard : (cred : CredentialOf) (ps : List Parameter) (vs : List Text) (pid key : ℕ) → heard_all cred LetIn (all_reports_from ps vs ++ backend_key_data pid key ∷ ready_for_query IDLE ∷ []) ≡ Ready
welcome_heard cred [] vs pid key = refl
welcome_heard cred (p ∷ ps) [] pid key = refl
welcome_heard cred (p ∷ ps) (v ∷ vs) pid key = welcome_heard cred ps vs pid key

pub let_in_heard : (cred : CredentialOf) → heard_by cred Nothing let_in ≡ LetIn
unfolding authentication_of int32_at
let_in_heard cred = refl

-- the session that was opened, and what its welcome reports
pub record OpensReported (v : Server) (key : StartKeyOf) (replies : List FrameOf) : Type 0 where
  pub session : State
  pub is_fresh : fresh v.catalogue key ≡ Ok session
  pub reported : reported_all [] replies ≡ Some (kept_by session.reported session.reported)
  pub keyed : TellsOwnKey v replies

pub record RefusedBy (refusal : Option FrameOf) (bytes : List ℕ) : Type 0 where
  pub frame : FrameOf
  pub is : refusal ≡ Some frame
  pub whole : bytes ≡ spelling frame

-- replies of which each front is heard as a start: what the last says, and nothing else than a start's frames
pub record IsHeard (cred : CredentialOf) (v : Server) (key : StartKeyOf) (h : StartProgress) (replies : List FrameOf) (refusal : Option FrameOf) : Type 0 where
  pub lawful : heard_all cred h replies ≢ Other
  pub ready : heard_all cred h replies ≡ Ready → OpensReported v key replies
  pub refused : heard_all cred h replies ≡ Refused → RefusedBy refusal (error_in replies)

opened_heard : (cred : CredentialOf) (v : Server) (key : StartKeyOf) (h : StartProgress) (r : Result State Cause) → heard_by cred h let_in ≡ LetIn → fresh v.catalogue key ≡ r → IsLawfulCatalogue v.catalogue → IsLinkKey key
    → IsHeard cred v key h (opened v r).replies (start_error r)
opened_heard cred v key h (Ok s) e f c k =
    let w : Welcomes s v.pid v.secret = welcome_is_read v.catalogue key s v.pid v.secret (fresh_is_reached v.catalogue key s c k.0.lawful f) in
    let is : heard_all cred h (opened v (Ok s)).replies ≡ Ready = ap (λ (x : StartProgress). heard_all cred x (welcome s v.pid v.secret)) e ∙ welcome_heard cred reported_parameters s.reported v.pid v.secret in
    record {
      lawful = λ o. let z : Ready ≡ Other = sym is ∙ o in cc;
      ready = λ _. record { session = s; is_fresh = f; reported = welcome_reports s v.pid v.secret w; keyed = behind_none v let_in (welcome s v.pid v.secret) refl (welcome_tells_key v s) };
      refused = λ o. absurd (let z : Ready ≡ Refused = sym is ∙ o in cc);
    }
opened_heard cred v key h (Err c) e f l k =
    let is : heard_all cred h (opened v (Err c)).replies ≡ Refused = ap (λ (x : StartProgress). heard_all cred x (fatal c ∷ [])) e in
    record {
      lawful = λ o. let z : Refused ≡ Other = sym is ∙ o in cc;
      ready = λ o. absurd (let z : Refused ≡ Ready = sym is ∙ o in cc);
      refused = λ _. record { frame = fatal c; is = refl; whole = refl };
    }

wrong_heard : (cred : CredentialOf) (v : Server) (key : StartKeyOf) (q : ServerQuestion) → can_answer cred q ≡ true → IsHeard cred v key (Asked q) (wrong_password ∷ []) (Some wrong_password)
wrong_heard cred v key q e =
    let is : heard_all cred (Asked q) (wrong_password ∷ []) ≡ Refused = answerable_next cred q wrong_password e in
    record {
      lawful = λ o. let z : Refused ≡ Other = sym is ∙ o in cc;
      ready = λ o. absurd (let z : Refused ≡ Ready = sym is ∙ o in cc);
      refused = λ _. record { frame = wrong_password; is = refl; whole = refl };
    }

-- the question is the last that came
asked_heard : (cred : CredentialOf) (v : Server) (key : StartKeyOf) (q : ServerQuestion) → IsHeard cred v key (Asked q) [] None
asked_heard cred v key q = record { lawful = λ o. cc; ready = λ o. absurd cc; refused = λ o. absurd cc }

-- ---- all that is answered to a start

and_none : (cred : CredentialOf) (v : Server) (key : StartKeyOf) (h : StartProgress) (replies : List FrameOf) (refusal : Option FrameOf) → IsHeard cred v key h replies refusal → IsHeard cred v key h (replies ++ []) refusal
and_none cred v key h replies refusal x = subst (λ (fs : List FrameOf). IsHeard cred v key h fs refusal) (sym (append-nil replies)) x

-- an Authentication message, and then what is answered behind it
step_heard : (cred : CredentialOf) (v : Server) (key : StartKeyOf) (h next : StartProgress) (q : Question) (replies : List FrameOf) (refusal : Option FrameOf) → heard_by cred h (asks q) ≡ next
    → IsHeard cred v key next replies refusal → IsHeard cred v key h (asks q ∷ replies) refusal
step_heard cred v key h next q replies refusal e y =
    let is : heard_all cred h (asks q ∷ replies) ≡ heard_all cred next replies = ap (λ (x : StartProgress). heard_all cred x replies) e in
    record {
      lawful = λ o. y.lawful (sym is ∙ o);
      ready = λ o. let z = y.ready (sym is ∙ o) in record { session = z.session; is_fresh = z.is_fresh; reported = z.reported; keyed = behind_none v (asks q) replies refl z.keyed };
      refused = λ o. let z = y.refused (sym is ∙ o) in record { frame = z.frame; is = z.is; whole = z.whole };
    }

module _ (cred : CredentialOf) (user : Text) (v : Server) (key : StartKeyOf) (told : List Question) (c : IsLawfulCatalogue v.catalogue) (k : IsLinkKey key) where
  error : Option FrameOf
  error = start_error (fresh v.catalogue key)

  opens_heard : (h : StartProgress) → heard_by cred h let_in ≡ LetIn → IsHeard cred v key h (opens v (start_body key)).replies error
  unfolding error
  opens_heard h e =
      subst (λ (r : Result State Cause). IsHeard cred v key h (opened v r).replies (start_error (fresh v.catalogue key))) (sym (starts_are_of_their_keys v.catalogue key k.0 k.1))
      (opened_heard cred v key h (fresh v.catalogue key) e refl c k)

  told_heard : (h : StartProgress) (said : List Question) → TellsOn cred h said → IsHeard cred v key h (map asks said ++ (opens v (start_body key)).replies) error
  told_heard h [] t = opens_heard h t
  told_heard h (q ∷ said) t = step_heard cred v key h Proved q (map asks said ++ (opens v (start_body key)).replies) error t.0 (told_heard Proved said t.1)

  replies_on : (h : StartProgress) (rounds : List Round) (given : List (List ℕ)) → GoesOn cred h → AsksOn cred user told h rounds → AreOwnFrom cred user h rounds given
      → IsHeard cred v key h (all_said v (goes_on v told (start_body key) rounds) given) (refusal_of error rounds given)
  replies_on h [] [] g a own = and_none cred v key h (map asks told ++ (opens v (start_body key)).replies) error (told_heard h told a)
  replies_on h [] (x ∷ given) g a own = absurd own
  replies_on h (r ∷ rounds) [] g a own = step_heard cred v key h (Asked a.0) r.question [] None a.1 (asked_heard cred v key a.0)
  replies_on h (r ∷ rounds) (x ∷ given) g a own =
      step_heard cred v key h (Asked p) r.question (all_said v (heard_turn v told (start_body key) rounds (is_answer r.answer (answer_message x))) given)
      (if is_answer r.answer (answer_message x) then refusal_of error rounds given else Some wrong_password) own.1 (by (λ can y. replies_on (Asked own.0) rounds given can y own.3) (is_answer r.answer (answer_message x)) refl)
    where
      p : ServerQuestion
      p = own.0

      can : can_answer cred p ≡ true
      can = answered_can cred user p x own.2

      asks_more : x ≡ r.answer → AsksOn cred user told (Asked p) rounds
      asks_more right =
          let same : a.0 ≡ p = same_question a.0 p (sym a.1 ∙ own.1) in
          subst (λ (y : ServerQuestion). AsksOn cred user told (Asked y) rounds) same (a.2 (ap (answer_to cred user) same ∙ own.2 ∙ ap (λ (t : List ℕ). Some t) right))

      by : (can_answer cred own.0 ≡ true → AsksOn cred user told (Asked own.0) rounds → IsHeard cred v key (Asked own.0) (all_said v (goes_on v told (start_body key) rounds) given) (refusal_of error rounds given))
          → (b : Bool) → is_answer r.answer (answer_message x) ≡ b → IsHeard cred v key (Asked p) (all_said v (heard_turn v told (start_body key) rounds b) given) (if b then refusal_of error rounds given else Some wrong_password)
      by again true right = again can (asks_more (right_is r.answer x right))
      by again false wrong_one = subst (λ (fs : List FrameOf). IsHeard cred v key (Asked p) (wrong_password ∷ fs) (Some wrong_password)) (sym (closed_says v (answer_packets given))) (wrong_heard cred v key p can)

pub replies_heard : (cred : CredentialOf) (user : Text) (v : Server) (auth : Auth) (key : StartKeyOf) (given : List (List ℕ)) → IsLawfulCatalogue v.catalogue → IsLinkKey key → AsksQuestions cred user auth → AreOwn cred user auth given
    → IsHeard cred v key Nothing (start_replies v auth key given) (start_refusal v auth key given)
unfolding error
replies_heard cred user v auth key given c k a own = replies_on cred user v key auth.told c k Nothing auth.rounds given tt a own

-- ---- the beginning of a frame

pub not_faulty : (more : List FrameOf) (tail lost : List ℕ) (fault : FrameError) → AllByRecursion IsShortReply more → tail ++ lost ≡ flat_map spelling more → front FromServer 65536 tail ≢ Faulty fault
not_faulty [] tail lost fault each e f =
    let none : tail ≡ [] = nothing tail lost e in
    let z : front FromServer 65536 [] ≡ Faulty fault = ap (front FromServer 65536) (sym none) ∙ f in
    cc
  where
    nothing : (a b : List ℕ) → a ++ b ≡ [] → a ≡ []
    nothing [] b h = refl
    nothing (x ∷ a) b h = absurd cc
not_faulty (m ∷ ms) tail lost fault each e f =
    let stays : front FromServer 65536 (tail ++ lost) ≡ Faulty fault = (front-grows FromServer 65536 tail lost).fault fault f in
    let whole : front FromServer 65536 (tail ++ lost) ≡ AFrame m.kind m.body (flat_map spelling ms) = ap (front FromServer 65536) e ∙ front-spelling FromServer 65536 m (flat_map spelling ms) (omega arith) each.0 in
    let z : Faulty fault ≡ AFrame m.kind m.body (flat_map spelling ms) = sym stays ∙ whole in
    cc
