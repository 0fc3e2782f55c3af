-- How long a server's answer to a start is.
use Rattle.std.proofs.Common.{◌≡◌, ℕ, ◌+◌, ◌*◌, ◌≤◌, Bool, true, false, List, [], ◌∷◌, ◌++◌, map, length, refl, sym, ap, ◌∙◌, subst, arith, length-append, Result, Ok, Err, Option, Some, None}
use Rattle.std.specs.Prelude.{if◌then◌else◌}
use Rattle.std.specs.List.{flat_map, AllByRecursion}
use Rattle.std.specs.Int.{w32, to_be_bytes}
use Rattle.frame_view.specs.Frames.{FrameOf, spelling}
use Rattle.message_view.specs.Bodies.{Text}
use Rattle.message_view.specs.Messages.{backend_key_data, ready_for_query}
use Rattle.message_view.specs.declared.kinds.TheConstants.{IDLE}
use Rattle.session_values.specs.declared.cause.Cause.{Cause}
use Rattle.session_values.specs.declared.parameter.Parameter.{Parameter}
use Rattle.session_values.specs.Parameters.{reported_parameters}
use Rattle.session_values.specs.State.{State, StartKeyOf, all_reports_from}
use Rattle.link_model.specs.Stages.{Server, Auth, Question, Round, asks, goes_on, is_answer, opened, opens, started_by}
use Rattle.link_model.specs.Starts.{start_body}
use Rattle.link_model.specs.Dialogues.{answer_message, answer_packets, start_replies, IsShortReply}
use Rattle.credentials.specs.Credentials.{CredentialOf}
use Rattle.link_start.specs.declared.start.TheConstants.{MAX_WELCOME}
use Rattle.link_start.specs.declared.start_reply.StartProgress.{StartProgress}
use Rattle.link_start.specs.declared.start_reply.StartProgress.TheVariants.{Nothing, Asked, Proved, LetIn, Ready, Refused, Other}
use Rattle.link_start.specs.declared.start_reply.ServerQuestion.{ServerQuestion}
use Rattle.link_start.specs.declared.start_reply.ServerQuestion.TheVariants.{Cleartext, Md5, Scram, Challenge, Unknown}
use Rattle.link_start.specs.Questions.{answer_to, can_answer, answers_wanted}
use Rattle.link_start.specs.StartReply.{asked, only_let_in, heard_by}
use Rattle.link_start.specs.Starts.{TellsOn, AsksOn, AsksQuestions, AreOwnFrom, AreOwn}
use Rattle.link_start.proofs.Hearing.{IsPast, same_question, wanted_by}
use Rattle.link_start.proofs.Asking.{GoesOn, answered_can, next_wants, heard_turn, all_said, closed_says, right_is}

reports_count : (ps : List Parameter) (vs : List Text) → length (all_reports_from ps vs) ≤ length ps
reports_count [] vs = omega arith
reports_count (p ∷ ps) [] = omega arith
reports_count (p ∷ ps) (v ∷ vs) = omega (arith, reports_count ps vs)

-- AuthenticationOk, nine reports, the key, ReadyForQuery
opened_count : (v : Server) (r : Result State Cause) → length (opened v r).replies ≤ 12
opened_count v (Ok s) =
    omega (arith, reports_count reported_parameters s.reported, length-append (all_reports_from reported_parameters s.reported) (backend_key_data v.pid v.secret ∷ ready_for_query IDLE ∷ []))
opened_count v (Err c) = omega arith

-- a proof is told once at most
none_proved : {A : Type 0} (cred : CredentialOf) (q : Question) → heard_by cred Proved (asks q) ≡ Proved → A
none_proved cred q e = absurd (only (asked (asks q).body) e)
  where
    only : (h : StartProgress) → only_let_in h ≡ Proved → ⊥
    only Nothing i = cc
    only (Asked p) i = cc
    only Proved i = cc
    only LetIn i = cc
    only Ready i = cc
    only Refused i = cc
    only Other i = cc

proved_count : (cred : CredentialOf) (told : List Question) → TellsOn cred Proved told → length (map asks told) ≤ 0
proved_count cred [] t = omega arith
proved_count cred (q ∷ told) t = none_proved cred q t.0

told_count : (cred : CredentialOf) (h : StartProgress) (told : List Question) → TellsOn cred h told → length (map asks told) ≤ 1
told_count cred h [] t = omega arith
told_count cred h (q ∷ told) t = omega (arith, proved_count cred told t.1)

pub wanted_most : (q : ServerQuestion) → answers_wanted q ≤ 2
wanted_most Cleartext = omega arith
wanted_most (Md5 salt) = omega arith
wanted_most Scram = omega arith
wanted_most (Challenge exchange) = omega arith
wanted_most (Unknown kind) = omega arith

module _ (cred : CredentialOf) (user : Text) (v : Server) (told : List Question) (start : List ℕ) where
  wanted_few : (h : StartProgress) → GoesOn cred h → wanted_by h ≤ 2
  wanted_few Nothing g = omega arith
  wanted_few (Asked q) g = wanted_most q
  wanted_few Proved g = absurd g
  wanted_few LetIn g = absurd g
  wanted_few Ready g = absurd g
  wanted_few Refused g = absurd g
  wanted_few Other g = absurd g

  -- a question more for each answer that one takes
  said_count : (h : StartProgress) (rounds : List Round) (given : List (List ℕ)) → GoesOn cred h → AsksOn cred user told h rounds → AreOwnFrom cred user h rounds given
      → length (all_said v (goes_on v told start rounds) given) + wanted_by h ≤ 15
  said_count h [] [] g a own =
      omega (arith, wanted_few h g, told_count cred h told a, opened_count v (started_by v.catalogue start), length-append (map asks told) (opens v start).replies, length-append (map asks told ++ (opens v start).replies) [])
  said_count h [] (x ∷ given) g a own = absurd own
  said_count h (r ∷ rounds) [] g a own = omega (arith, wanted_few h g)
  said_count h (r ∷ rounds) (x ∷ given) g a own = omega (arith, by (λ can y. said_count (Asked own.0) rounds given can y own.3) (is_answer r.answer (answer_message x)) refl)
    where
      p : ServerQuestion
      p = own.0

      can : can_answer cred p ≡ true
      can = answered_can cred user p x own.2

      asks_more : x ≡ r.answer → AsksOn cred user told (Asked p) rounds
      asks_more right =
          let same : a.0 ≡ p = same_question a.0 p (sym a.1 ∙ own.1) in
          subst (λ (y : ServerQuestion). AsksOn cred user told (Asked y) rounds) same (a.2 (ap (answer_to cred user) same ∙ own.2 ∙ ap (λ (t : List ℕ). Some t) right))

      by : (can_answer cred own.0 ≡ true → AsksOn cred user told (Asked own.0) rounds → length (all_said v (goes_on v told start rounds) given) + wanted_by (Asked own.0) ≤ 15)
          → (b : Bool) → is_answer r.answer (answer_message x) ≡ b → 1 + length (all_said v (heard_turn v told start rounds b) given) + wanted_by h ≤ 15
      by again true right = omega (arith, again can (asks_more (right_is r.answer x right)), next_wants cred h r.question p g own.1)
      by again false wrong_one = omega (arith, wanted_few h g, ap length (closed_says v (answer_packets given)))

replies_count : (cred : CredentialOf) (user : Text) (v : Server) (auth : Auth) (key : StartKeyOf) (given : List (List ℕ)) → AsksQuestions cred user auth → AreOwn cred user auth given → length (start_replies v auth key given) ≤ 15
replies_count cred user v auth key given a own = omega (arith, said_count cred user v auth.told (start_body key) Nothing auth.rounds given tt a own)

-- frames of the greatest length, so many
spelled_length : (fs : List FrameOf) → AllByRecursion IsShortReply fs → length (flat_map spelling fs) ≤ 65537 * length fs
spelled_length [] s = omega arith
spelled_length (f ∷ fs) s =
    omega (arith, s.0.size, spelled_length fs s.1, length-append (spelling f) (flat_map spelling fs), length-append (to_be_bytes w32 (4 + length f.body)) f.body)

pub replies_are_short : (cred : CredentialOf) (user : Text) (v : Server) (auth : Auth) (key : StartKeyOf) (given : List (List ℕ)) → AsksQuestions cred user auth → AreOwn cred user auth given → AllByRecursion IsShortReply (start_replies v auth key given)
    → length (flat_map spelling (start_replies v auth key given)) ≤ MAX_WELCOME
replies_are_short cred user v auth key given a own each = omega (arith, replies_count cred user v auth key given a own, spelled_length (start_replies v auth key given) each)
