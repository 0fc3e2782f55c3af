-- What a server that follows asks, question by question, and this user's own answers.
use Rattle.std.proofs.Common.{◌≡◌, ◌⊎◌, inl, inr, ℕ, suc, ◌+◌, ◌<◌, ◌≤◌, Bool, true, false, List, [], ◌∷◌, ◌++◌, map, length, refl, sym, ap, ◌∙◌, append-nil, arith, subst, Result, Ok, Err, Option, Some, None}
use Rattle.std.specs.Prelude.{◌==◌, ◌&&◌, if◌then◌else◌, is_some, option_map, bytes_eq}
use Rattle.std.proofs.lemmas.Slice.Eq.{bytes_eq-Decides}
use Rattle.frame_view.specs.Frames.{FrameOf}
use Rattle.message_view.specs.Bodies.{Text, text}
use Rattle.message_view.specs.declared.ViewError.{ViewError}
use Rattle.message_view.specs.declared.kinds.TheConstants.{ASKS_NOTHING, ASKS_CLEARTEXT, ASKS_MD5}
use Rattle.message_view.specs.Reading.{authentication_of}
use Rattle.session_values.specs.declared.cause.Cause.{Cause}
use Rattle.session_values.specs.State.{State}
use Rattle.user_file.specs.declared.secrets.Secret.{Secret}
use Rattle.user_file.specs.declared.secrets.Secret.TheVariants as secrets
use Rattle.user_file.specs.Secrets.{answer, answers_md5}
use Rattle.credentials.specs.Credentials.{CredentialOf, answers_scram, first_response}
use Rattle.credentials.specs.Exchanges.{ExchangeOf, exchange_of}
use Rattle.link_model.specs.Stages.{Server, Question, Round, Packet, Closed, Turn, asks, goes_on, is_answer, let_in, opened, opens, wrong_password, started_by, answers}
use Rattle.link_model.specs.Dialogues.{answer_message, answer_packets, AreToRounds, refusal_of}
use Rattle.link_run.specs.Dialogues.{offers_scram}
use Rattle.link_run.specs.declared.sasl.TheConstants.{ASKS_SASL, SASL_CONTINUES}
use Rattle.link_start.specs.declared.start_reply.StartProgress.{StartProgress}
use Rattle.link_start.specs.declared.start_reply.StartProgress.TheVariants.{Nothing, Asked, Proved, LetIn, Ready, Refused, Other}
use Rattle.link_start.specs.declared.start_reply.ServerQuestion.{ServerQuestion}
use Rattle.link_start.specs.declared.start_reply.ServerQuestion.TheVariants.{Cleartext, Md5, Scram, Challenge, Unknown}
use Rattle.link_start.specs.Questions.{if_answered, password_of, answer_to, can_answer, answers_wanted}
use Rattle.link_start.specs.StartReply.{bare, salted, offered, asked_by, asked_part, only_let_in, challenged, proved_by, followed_by, followed_part, after_question, heard_by, heard_all}
use Rattle.link_start.specs.Starts.{TellsOn, AsksOn, given_to, answers_heard, answers_from, AreOwnFrom, LacksAnswer, LacksHeard, LacksFrom}
use Rattle.link_start.proofs.Hearing.{never_asked, same_question, wanted_by}

-- ---- an answered question

some_text : (o : Option Text) (a : List ℕ) → option_map text o ≡ Some a → is_some o ≡ true
some_text (Some t) a e = refl
some_text None a e = absurd cc

given_if : (b : Bool) (body a : List ℕ) → if_answered b body ≡ Some a → b ≡ true
given_if true body a e = refl
given_if false body a e = absurd cc

-- a secret with an answer to one MD5 question has one to each
pub answers_digest : (secret : Secret) (user salt : Text) (a : List ℕ) → option_map text (answer secret user salt) ≡ Some a → answers_md5 secret ≡ true
answers_digest (secrets.Plain password) user salt a e = refl
answers_digest (secrets.Md5 own) user salt a e = refl
answers_digest (secrets.Scram verifier) user salt a e = absurd cc
answers_digest secrets.Unusable user salt a e = absurd cc

-- what has an answer can be answered
pub answered_can : (cred : CredentialOf) (user : Text) (q : ServerQuestion) (a : List ℕ) → answer_to cred user q ≡ Some a → can_answer cred q ≡ true
answered_can cred user Cleartext a e = some_text (password_of cred.secret) a e
answered_can cred user (Md5 salt) a e = answers_digest cred.secret user salt a e
answered_can cred user Scram a e = given_if (answers_scram cred) (first_response cred).body a e
answered_can cred user (Challenge exchange) a e = refl
answered_can cred user (Unknown kind) a e = absurd cc

-- a question can come: the first, or one behind an answer
abbrev pub GoesOn : CredentialOf → StartProgress → Type 0
GoesOn cred Nothing = Unit {0}
GoesOn cred (Asked q) = can_answer cred q ≡ true
GoesOn cred Proved = ⊥
GoesOn cred LetIn = ⊥
GoesOn cred Ready = ⊥
GoesOn cred Refused = ⊥
GoesOn cred Other = ⊥

-- ---- each question takes one answer more

wants : (p q : ServerQuestion) → Asked p ≡ Asked q → answers_wanted q ≡ answers_wanted p
wants p q e = ap answers_wanted (sym (same_question p q e))

bare_never : {A : Type 0} (more : List ℕ) (q : ServerQuestion) → bare LetIn more ≡ Asked q → A
bare_never [] q e = absurd cc
bare_never (b ∷ more) q e = absurd cc

cleartext_wants : (more : List ℕ) (q : ServerQuestion) → bare (Asked Cleartext) more ≡ Asked q → answers_wanted q ≡ 1
cleartext_wants [] q e = wants Cleartext q e
cleartext_wants (b ∷ more) q e = absurd cc

salted_wants : (more : List ℕ) (q : ServerQuestion) → salted more ≡ Asked q → answers_wanted q ≡ 1
salted_wants [] q e = absurd cc
salted_wants (a ∷ []) q e = absurd cc
salted_wants (a ∷ b ∷ []) q e = absurd cc
salted_wants (a ∷ b ∷ c ∷ []) q e = absurd cc
salted_wants (a ∷ b ∷ c ∷ d ∷ []) q e = wants (Md5 (a ∷ b ∷ c ∷ d ∷ [])) q e
salted_wants (a ∷ b ∷ c ∷ d ∷ x ∷ more) q e = absurd cc

offered_wants : (b : Bool) (q : ServerQuestion) → offered b ≡ Asked q → answers_wanted q ≡ 1
offered_wants true q e = wants Scram q e
offered_wants false q e = wants (Unknown ASKS_SASL) q e

asked_wants : (a b c d : Bool) (kind : ℕ) (more : List ℕ) (q : ServerQuestion)
    → (if a then bare LetIn more else (if b then bare (Asked Cleartext) more else (if c then salted more else (if d then offered (offers_scram more) else Asked (Unknown kind))))) ≡ Asked q → answers_wanted q ≡ 1
asked_wants true b c d kind more q e = bare_never more q e
asked_wants false true c d kind more q e = cleartext_wants more q e
asked_wants false false true d kind more q e = salted_wants more q e
asked_wants false false false true kind more q e = offered_wants (offers_scram more) q e
asked_wants false false false false kind more q e = wants (Unknown kind) q e

part_wants : (r : Result (ℕ × List ℕ) ViewError) (q : ServerQuestion) → asked_part r ≡ Asked q → answers_wanted q ≡ 1
part_wants (Ok x) q e = asked_wants (x.0 == ASKS_NOTHING) (x.0 == ASKS_CLEARTEXT) (x.0 == ASKS_MD5) (x.0 == ASKS_SASL) x.0 x.1 q e
part_wants (Err fault) q e = absurd cc

only_never : {A : Type 0} (h : StartProgress) (q : ServerQuestion) → only_let_in h ≡ Asked q → A
only_never Nothing q e = absurd cc
only_never (Asked p) q e = absurd cc
only_never Proved q e = absurd cc
only_never LetIn q e = absurd cc
only_never Ready q e = absurd cc
only_never Refused q e = absurd cc
only_never Other q e = absurd cc

challenge_wants : (b : Bool) (x : Option ExchangeOf) (q : ServerQuestion) → (if b then challenged x else Other) ≡ Asked q → answers_wanted q ≡ 2
challenge_wants true (Some exchange) q e = wants (Challenge exchange) q e
challenge_wants true None q e = absurd cc
challenge_wants false x q e = absurd cc

proof_never : {A : Type 0} (b : Bool) (q : ServerQuestion) → (if b then Proved else Other) ≡ Asked q → A
proof_never true q e = absurd cc
proof_never false q e = absurd cc

followed_wants : (cred : CredentialOf) (p : ServerQuestion) (kind : ℕ) (more : List ℕ) (q : ServerQuestion) → followed_by cred p kind more ≡ Asked q → answers_wanted q ≡ suc (answers_wanted p)
followed_wants cred Cleartext kind more q e = only_never (asked_by kind more) q e
followed_wants cred (Md5 salt) kind more q e = only_never (asked_by kind more) q e
followed_wants cred Scram kind more q e = challenge_wants (kind == SASL_CONTINUES) (exchange_of cred more) q e
followed_wants cred (Challenge exchange) kind more q e = proof_never _ q e
followed_wants cred (Unknown number) kind more q e = absurd cc

behind_wants : (cred : CredentialOf) (p : ServerQuestion) (r : Result (ℕ × List ℕ) ViewError) (q : ServerQuestion) → followed_part cred p r ≡ Asked q → answers_wanted q ≡ suc (answers_wanted p)
behind_wants cred p (Ok x) q e = followed_wants cred p x.0 x.1 q e
behind_wants cred p (Err fault) q e = absurd cc

-- behind a question that can be answered
pub answerable_next : (cred : CredentialOf) (q : ServerQuestion) (f : FrameOf) → can_answer cred q ≡ true → heard_by cred (Asked q) f ≡ after_question cred q f
answerable_next cred q f e = ap (λ (b : Bool). if b then after_question cred q f else Asked q) e

pub next_wants : (cred : CredentialOf) (h : StartProgress) (said : Question) (q : ServerQuestion) → GoesOn cred h → heard_by cred h (asks said) ≡ Asked q → answers_wanted q ≡ suc (wanted_by h)
next_wants cred Nothing said q g e = part_wants (authentication_of (asks said).body) q e
next_wants cred (Asked p) said q g e = behind_wants cred p (authentication_of (asks said).body) q (sym (answerable_next cred p (asks said) g) ∙ e)
next_wants cred Proved said q g e = absurd g
next_wants cred LetIn said q g e = absurd g
next_wants cred Ready said q g e = absurd g
next_wants cred Refused said q g e = absurd g
next_wants cred Other said q g e = absurd g

-- ---- all that is said

abbrev pub heard_turn : Server → List Question → List ℕ → List Round → Bool → Turn
heard_turn v told start rounds b = if b then goes_on v told start rounds else (record { next = Closed; replies = wrong_password ∷ [] })

-- the replies of a turn, and those to the answers that follow it
abbrev pub all_said : Server → Turn → List (List ℕ) → List FrameOf
all_said v t given = t.replies ++ answers v t.next (answer_packets given)

pub closed_says : (v : Server) (ps : List Packet) → answers v Closed ps ≡ []
closed_says v [] = refl
closed_says v (p ∷ ps) = closed_says v ps

-- the right answer is the round's
pub right_is : (answer a : List ℕ) → is_answer answer (answer_message a) ≡ true → a ≡ answer
right_is answer a e = (bytes_eq-Decides a answer).0 e

first_is : (g f : FrameOf) (xs ys : List FrameOf) → g ∷ xs ≡ f ∷ ys → g ≡ f
first_is g f xs ys e = cc

rest_is : (g f : FrameOf) (xs ys : List FrameOf) → g ∷ xs ≡ f ∷ ys → xs ≡ ys
rest_is g f xs ys e = cc

none_in : (xs ys : List FrameOf) → xs ++ ys ≡ [] → xs ≡ []
none_in [] ys e = refl
none_in (x ∷ xs) ys e = absurd cc

-- ---- where a question stands

-- the answers go on by that to this question, or it has none
pub record IsNext (cred : CredentialOf) (user : Text) (h : StartProgress) (rounds : List Round) (given : List (List ℕ)) (q : ServerQuestion) : Type 0 where
  pub own : (a : List ℕ) → answer_to cred user q ≡ Some a → AreOwnFrom cred user h rounds (given ++ a ∷ [])
  pub to : (a : List ℕ) → AreToRounds (given ++ a ∷ []) rounds
  pub lacks : answer_to cred user q ≡ None → LacksFrom cred user h rounds

pub record IsLocated (cred : CredentialOf) (user : Text) (h : StartProgress) (rounds : List Round) (given : List (List ℕ)) (q : ServerQuestion) : Type 0 where
  pub bound : answers_wanted q ≤ suc (wanted_by h + length given)
  pub next : wanted_by h + length given < answers_wanted q → IsNext cred user h rounds given q

module _ (cred : CredentialOf) (user : Text) (v : Server) (told : List Question) (start : List ℕ) where
  lacks_here : (h : StartProgress) (r : Round) (rounds : List Round) (q : ServerQuestion) → heard_by cred h (asks r.question) ≡ Asked q → answer_to cred user q ≡ None → LacksFrom cred user h (r ∷ rounds)
  lacks_here h r rounds q e n =
      subst (λ (p : StartProgress). LacksHeard cred user p (λ question. LacksFrom cred user (Asked question) rounds)) (sym e)
      (subst (λ (o : Option (List ℕ)). LacksAnswer o (LacksFrom cred user (Asked q) rounds)) (sym n) tt)

  lacks_behind : (h : StartProgress) (r : Round) (rounds : List Round) (q : ServerQuestion) (a : List ℕ) → heard_by cred h (asks r.question) ≡ Asked q → answer_to cred user q ≡ Some a → LacksFrom cred user (Asked q) rounds → LacksFrom cred user h (r ∷ rounds)
  lacks_behind h r rounds q a e s x =
      subst (λ (p : StartProgress). LacksHeard cred user p (λ question. LacksFrom cred user (Asked question) rounds)) (sym e)
      (subst (λ (o : Option (List ℕ)). LacksAnswer o (LacksFrom cred user (Asked q) rounds)) (sym s) x)

  next_here : (h : StartProgress) (r : Round) (rounds : List Round) (q : ServerQuestion) → heard_by cred h (asks r.question) ≡ Asked q → IsNext cred user h (r ∷ rounds) [] q
  next_here h r rounds q e = record { own = λ a s. (q, e, s, tt); to = λ a. tt; lacks = lacks_here h r rounds q e }

  next_behind : (h : StartProgress) (r : Round) (rounds : List Round) (p q : ServerQuestion) (a : List ℕ) (given : List (List ℕ)) → heard_by cred h (asks r.question) ≡ Asked p → answer_to cred user p ≡ Some a
      → IsNext cred user (Asked p) rounds given q → IsNext cred user h (r ∷ rounds) (a ∷ given) q
  next_behind h r rounds p q a given e s x = record { own = λ b t. (p, e, s, x.own b t); to = x.to; lacks = λ n. lacks_behind h r rounds p a e s (x.lacks n) }

  -- the question of this round, once it is answered
  answered_here : (h : StartProgress) (r : Round) (rounds : List Round) (p q : ServerQuestion) (a : List ℕ) (given : List (List ℕ)) → GoesOn cred h → heard_by cred h (asks r.question) ≡ Asked p → Asked p ≡ Asked q
      → IsLocated cred user h (r ∷ rounds) (a ∷ given) q
  answered_here h r rounds p q a given g e s =
      let w = wants p q s ∙ next_wants cred h r.question p g e in
      record { bound = omega (arith, w); next = λ l. absurd (omega (arith, w, l)) }

  -- nothing that is told before a session is open is a question
  told_asks : (r : Result State Cause) (h : StartProgress) (said : List Question) (got more : List FrameOf) (q : ServerQuestion) → TellsOn cred h said → got ++ more ≡ (map asks said ++ (opened v r).replies) ++ [] → heard_all cred h got ≡ Asked q → h ≡ Asked q
  told_asks r h said [] more q t e s = s
  told_asks (Ok o) h [] (g ∷ got) more q t e s =
      never_asked cred LetIn got q tt (ap (λ (x : StartProgress). heard_all cred x got) (sym (ap (heard_by cred h) (first_is g let_in (got ++ more) _ e) ∙ t)) ∙ s)
  told_asks (Err c) h [] (g ∷ got) more q t e s =
      never_asked cred LetIn got q tt (ap (λ (x : StartProgress). heard_all cred x got) (sym (ap (heard_by cred h) (first_is g let_in (got ++ more) _ e) ∙ t)) ∙ s)
  told_asks r h (d ∷ said) (g ∷ got) more q t e s =
      never_asked cred Proved got q tt (ap (λ (x : StartProgress). heard_all cred x got) (sym (ap (heard_by cred h) (first_is g (asks d) (got ++ more) _ e) ∙ t.0)) ∙ s)

  pub located : (h : StartProgress) (rounds : List Round) (given : List (List ℕ)) (got more : List FrameOf) (q : ServerQuestion) → GoesOn cred h → AsksOn cred user told h rounds → AreOwnFrom cred user h rounds given
      → got ++ more ≡ all_said v (goes_on v told start rounds) given → heard_all cred h got ≡ Asked q → (h ≡ Asked q) ⊎ IsLocated cred user h rounds given q
  located h [] [] got more q g asks_on own e s = inl (told_asks (started_by v.catalogue start) h told got more q asks_on e s)
  located h [] (a ∷ given) got more q g asks_on own e s = absurd own
  located h (r ∷ rounds) given [] more q g asks_on own e s = inl s
  located h (r ∷ rounds) [] (f ∷ got) more q g asks_on own e s =
      let first = first_is f (asks r.question) (got ++ more) [] e in
      let none = none_in got more (rest_is f (asks r.question) (got ++ more) [] e) in
      let here : heard_by cred h (asks r.question) ≡ Asked q = ap (heard_by cred h) (sym first) ∙ (sym (ap (heard_all cred (heard_by cred h f)) none) ∙ s) in
      let w = next_wants cred h r.question q g here in
      inr (record { bound = omega (arith, w); next = λ _. next_here h r rounds q here })
  located h (r ∷ rounds) (a ∷ given) (f ∷ got) more q g asks_on own e s =
      by (λ can x i t. located (Asked own.0) rounds given got more q can x own.3 i t) (is_answer r.answer (answer_message a)) refl (rest_is f (asks r.question) (got ++ more) _ e)
    where
      p : ServerQuestion
      p = own.0

      can : can_answer cred p ≡ true
      can = answered_can cred user p a own.2

      here : heard_by cred h f ≡ Asked p
      here = ap (heard_by cred h) (first_is f (asks r.question) (got ++ more) _ e) ∙ own.1

      behind : heard_all cred (Asked p) got ≡ Asked q
      behind = ap (λ (x : StartProgress). heard_all cred x got) (sym here) ∙ s

      one_more : answers_wanted p ≡ suc (wanted_by h)
      one_more = next_wants cred h r.question p g own.1

      asks_more : a ≡ r.answer → AsksOn cred user told (Asked p) rounds
      asks_more right =
          let same : asks_on.0 ≡ p = same_question asks_on.0 p (sym asks_on.1 ∙ own.1) in
          subst (λ (x : ServerQuestion). AsksOn cred user told (Asked x) rounds) same
          (asks_on.2 (ap (answer_to cred user) same ∙ own.2 ∙ ap (λ (t : List ℕ). Some t) right))

      on : (Asked p ≡ Asked q) ⊎ IsLocated cred user (Asked p) rounds given q → IsLocated cred user h (r ∷ rounds) (a ∷ given) q
      on (inl same) = answered_here h r rounds p q a given g own.1 same
      on (inr x) = record {
        bound = omega (arith, x.bound, one_more);
        next = λ l. next_behind h r rounds p q a given own.1 own.2 (x.next (omega (arith, l, one_more)));
      }

      wrong : (fs : List FrameOf) → fs ++ more ≡ wrong_password ∷ [] → heard_all cred (Asked p) fs ≡ Asked q → Asked p ≡ Asked q
      wrong [] i t = t
      wrong (w ∷ fs) i t =
          never_asked cred Refused fs q tt
          (ap (λ (x : StartProgress). heard_all cred x fs) (sym (ap (heard_by cred (Asked p)) (first_is w wrong_password (fs ++ more) [] i) ∙ answerable_next cred p wrong_password can)) ∙ t)

      by : (can_answer cred own.0 ≡ true → AsksOn cred user told (Asked own.0) rounds → got ++ more ≡ all_said v (goes_on v told start rounds) given → heard_all cred (Asked own.0) got ≡ Asked q
          → (Asked own.0 ≡ Asked q) ⊎ IsLocated cred user (Asked own.0) rounds given q)
          → (b : Bool) → is_answer r.answer (answer_message a) ≡ b → got ++ more ≡ all_said v (heard_turn v told start rounds b) given → (h ≡ Asked q) ⊎ IsLocated cred user h (r ∷ rounds) (a ∷ given) q
      by again true right i = inr (on (again can (asks_more (right_is r.answer a right)) i behind))
      by again false wrong_one i = inr (on (inl (wrong got (i ∙ ap (λ (fs : List FrameOf). wrong_password ∷ fs) (closed_says v (answer_packets given))) behind)))

-- ---- the refusal of this user's own answers

pub own_refusal : (cred : CredentialOf) (user : Text) (error : Option FrameOf) (h : StartProgress) (rounds : List Round) (given : List (List ℕ)) (f : FrameOf) → AreOwnFrom cred user h rounds given → refusal_of error rounds given ≡ Some f
    → refusal_of error rounds (answers_from cred user h rounds) ≡ Some f
own_refusal cred user error h [] given f own e = e
own_refusal cred user error h (r ∷ rounds) [] f own e = absurd cc
own_refusal cred user error h (r ∷ rounds) (a ∷ given) f own e =
    let more : List (List ℕ) = answers_from cred user (Asked own.0) rounds in
    let first : answers_from cred user h (r ∷ rounds) ≡ a ∷ more =
    ap (λ (x : StartProgress). answers_heard cred user x (λ question. answers_from cred user (Asked question) rounds)) own.1 ∙ ap (λ (o : Option (List ℕ)). given_to o more) own.2 in
    ap (refusal_of error (r ∷ rounds)) first ∙ by (λ i. own_refusal cred user error (Asked own.0) rounds given f own.3 i) (is_answer r.answer (answer_message a)) e
  where
    by : (refusal_of error rounds given ≡ Some f → refusal_of error rounds (answers_from cred user (Asked own.0) rounds) ≡ Some f) → (b : Bool) → (if b then refusal_of error rounds given else Some wrong_password) ≡ Some f → (if b then refusal_of error rounds (answers_from cred user (Asked own.0) rounds) else Some wrong_password) ≡ Some f
    by again true i = again i
    by again false i = i
