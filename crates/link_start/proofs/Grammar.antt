-- What is heard as a whole start is one by its grammar.
use Rattle.std.proofs.Common.{◌≡◌, ◌⊎◌, inl, inr, ⊎_elim, ℕ, ◌==◌, Bool, true, false, List, [], ◌∷◌, ◌++◌, length, refl, sym, ap, ◌∙◌, subst, Option, Some, None, Result, Ok, Err}
use Rattle.std.specs.Prelude.{◌||◌, ◌&&◌, bytes_eq, if◌then◌else◌}
use Rattle.std.specs.List.{AllByRecursion}
use Rattle.std.proofs.lemmas.Bool.{eqb-true, true≢false}
use Rattle.std.proofs.lemmas.Slice.Eq.{bytes_eq-Decides}
use Rattle.frame_view.specs.declared.server.TheConstants.{AUTHENTICATION, BACKEND_KEY_DATA, NOTICE_RESPONSE, PARAMETER_STATUS, READY_FOR_QUERY}
use Rattle.frame_view.specs.Frames.{FrameOf}
use Rattle.message_view.specs.declared.ViewError.{ViewError}
use Rattle.message_view.specs.declared.kinds.TheConstants.{ASKS_NOTHING, ASKS_CLEARTEXT, ASKS_MD5, IDLE}
use Rattle.message_view.specs.Messages.{ready_for_query}
use Rattle.message_view.specs.Reading.{authentication_of}
use Rattle.credentials.specs.Credentials.{CredentialOf}
use Rattle.link_run.specs.Dialogues.{AreSaid, IsAsking, IsNotice, IsOfWelcome, IsSaid, LetsIn, Says, Way, Trusts, ByPassword, ByDigest, ByScram, questions_of, offers_scram}
use Rattle.link_run.specs.Dialogues as grammar
use Rattle.link_run.specs.declared.sasl.TheConstants.{ASKS_SASL, SASL_CONTINUES, SASL_ENDS}
use Rattle.credentials.specs.Exchanges.{ExchangeOf, exchange_of}
use Rattle.link_start.specs.declared.start_reply.StartProgress.{StartProgress}
use Rattle.link_start.specs.declared.start_reply.StartProgress.TheVariants.{Nothing, Asked, Proved, LetIn, Ready, Refused, Other}
use Rattle.link_start.specs.declared.start_reply.ServerQuestion.{ServerQuestion}
use Rattle.link_start.specs.declared.start_reply.ServerQuestion.TheVariants.{Cleartext, Md5, Scram, Challenge, Unknown}
use Rattle.link_start.specs.Questions.{can_answer}
use Rattle.link_start.specs.StartReply.{after_question, asked, asked_by, asked_part, bare, challenged, followed, followed_part, heard_all, is_idle, is_welcome, let_in_by, offered, on_authentication, only_let_in, refused, salted, ReadyIsAnswer}
use Rattle.link_start.proofs.Hearing.{other_stays, refused_stays, same_question, unanswered_stays}

or_parts : (a b : Bool) → (a || b) ≡ true → (a ≡ true) ⊎ (b ≡ true)
or_parts true b e = inl refl
or_parts false b e = inr e

-- ---- where nothing goes on

other_never : (cred : CredentialOf) (fs : List FrameOf) → heard_all cred Other fs ≡ Ready → ⊥
other_never cred fs e = let z : Other ≡ Ready = sym (other_stays cred fs) ∙ e in cc

refused_by : (cred : CredentialOf) (b : Bool) (fs : List FrameOf) → heard_all cred (if b then Refused else Other) fs ≡ Ready → ⊥
refused_by cred true fs e = let z : Refused ≡ Ready = sym (refused_stays cred fs) ∙ e in cc
refused_by cred false fs e = other_never cred fs e

refused_never : (cred : CredentialOf) (kind : ℕ) (fs : List FrameOf) → heard_all cred (refused kind) fs ≡ Ready → ⊥
refused_never cred kind fs e = refused_by cred _ fs e

ready_last : (cred : CredentialOf) (fs : List FrameOf) → heard_all cred Ready fs ≡ Ready → fs ≡ []
ready_last cred [] e = refl
ready_last cred (f ∷ fs) e = absurd (other_never cred fs e)

unanswered_never : (cred : CredentialOf) (q : ServerQuestion) (fs : List FrameOf) → can_answer cred q ≡ false → heard_all cred (Asked q) fs ≡ Ready → ⊥
unanswered_never cred q fs n e = let z : Asked q ≡ Ready = sym (unanswered_stays cred q fs n) ∙ e in cc

-- it went on behind a question: so that can be answered
answerable : (cred : CredentialOf) (q : ServerQuestion) (fs : List FrameOf) → heard_all cred (Asked q) fs ≡ Ready → can_answer cred q ≡ true
answerable cred q fs e = by (can_answer cred q) refl
  where
    by : (b : Bool) → can_answer cred q ≡ b → b ≡ true
    by true k = refl
    by false k = absurd (unanswered_never cred q fs k e)

-- ---- what an Authentication message says

salted_never : (more : List ℕ) → salted more ≡ LetIn → ⊥
salted_never [] e = cc
salted_never (a ∷ []) e = cc
salted_never (a ∷ b ∷ []) e = cc
salted_never (a ∷ b ∷ c ∷ []) e = cc
salted_never (a ∷ b ∷ c ∷ d ∷ []) e = cc
salted_never (a ∷ b ∷ c ∷ d ∷ x ∷ xs) e = cc

offered_never : (b : Bool) → offered b ≡ LetIn → ⊥
offered_never true e = cc
offered_never false e = cc

lets_in_by : (kind : ℕ) (more : List ℕ) (a b c d : Bool) → (kind == ASKS_NOTHING) ≡ a
    → (if a then bare LetIn more else (if b then bare (Asked Cleartext) more else (if c then salted more else (if d then offered (offers_scram more) else Asked (Unknown kind))))) ≡ LetIn → (kind ≡ ASKS_NOTHING) × (more ≡ [])
lets_in_by kind [] true b c d n e = (eqb-true kind ASKS_NOTHING n, refl)
lets_in_by kind (x ∷ xs) true b c d n e = absurd (let z : Other ≡ LetIn = e in cc)
lets_in_by kind [] false true c d n e = absurd (let z : Asked Cleartext ≡ LetIn = e in cc)
lets_in_by kind (x ∷ xs) false true c d n e = absurd (let z : Other ≡ LetIn = e in cc)
lets_in_by kind more false false true d n e = absurd (salted_never more e)
lets_in_by kind more false false false true n e = absurd (offered_never (offers_scram more) e)
lets_in_by kind more false false false false n e = absurd (let z : Asked (Unknown kind) ≡ LetIn = e in cc)

let_in_part : (r : Result (ℕ × List ℕ) ViewError) → asked_part r ≡ LetIn → r ≡ Ok (ASKS_NOTHING, [])
let_in_part (Err fault) e = absurd (let z : Other ≡ LetIn = e in cc)
let_in_part (Ok x) e =
    let h = lets_in_by x.0 x.1 (x.0 == ASKS_NOTHING) (x.0 == ASKS_CLEARTEXT) (x.0 == ASKS_MD5) (x.0 == ASKS_SASL) refl e in
    λ i. Ok (h.0 i, h.1 i)

-- a first question that can be answered is one of three
abbrev IsFirst : ServerQuestion → ℕ → List ℕ → Type 0
IsFirst Cleartext kind more = IsSaid grammar.Password kind more
IsFirst (Md5 salt) kind more = IsSaid grammar.Digest kind more
IsFirst Scram kind more = IsSaid grammar.Mechanism kind more
IsFirst (Challenge exchange) kind more = ⊥
IsFirst (Unknown number) kind more = ⊥

first_so : (p q : ServerQuestion) (kind : ℕ) (more : List ℕ) → Asked p ≡ Asked q → IsFirst p kind more → IsFirst q kind more
first_so p q kind more e x = subst (λ (y : ServerQuestion). IsFirst y kind more) (same_question p q e) x

salted_first : (q : ServerQuestion) (kind : ℕ) (more : List ℕ) → kind ≡ ASKS_MD5 → salted more ≡ Asked q → IsFirst q kind more
salted_first q kind [] k e = absurd (let z : Other ≡ Asked q = e in cc)
salted_first q kind (a ∷ []) k e = absurd (let z : Other ≡ Asked q = e in cc)
salted_first q kind (a ∷ b ∷ []) k e = absurd (let z : Other ≡ Asked q = e in cc)
salted_first q kind (a ∷ b ∷ c ∷ []) k e = absurd (let z : Other ≡ Asked q = e in cc)
salted_first q kind (a ∷ b ∷ c ∷ d ∷ []) k e = first_so (Md5 (a ∷ b ∷ c ∷ d ∷ [])) q kind (a ∷ b ∷ c ∷ d ∷ []) e (k, refl)
salted_first q kind (a ∷ b ∷ c ∷ d ∷ x ∷ xs) k e = absurd (let z : Other ≡ Asked q = e in cc)

unknown_never : {A : Type 0} (cred : CredentialOf) (q : ServerQuestion) (number : ℕ) → can_answer cred q ≡ true → Asked (Unknown number) ≡ Asked q → A
unknown_never cred q number k e = absurd (true≢false (sym k ∙ ap (can_answer cred) (sym (same_question (Unknown number) q e))))

offered_first : (cred : CredentialOf) (q : ServerQuestion) (kind : ℕ) (more : List ℕ) (b : Bool) → offers_scram more ≡ b → kind ≡ ASKS_SASL → can_answer cred q ≡ true → offered b ≡ Asked q → IsFirst q kind more
offered_first cred q kind more true o k can e = first_so Scram q kind more e (k, o)
offered_first cred q kind more false o k can e = unknown_never cred q ASKS_SASL can e

first_by : (cred : CredentialOf) (q : ServerQuestion) (kind : ℕ) (more : List ℕ) (a b c d : Bool) → (kind == ASKS_CLEARTEXT) ≡ b → (kind == ASKS_MD5) ≡ c → (kind == ASKS_SASL) ≡ d → can_answer cred q ≡ true
    → (if a then bare LetIn more else (if b then bare (Asked Cleartext) more else (if c then salted more else (if d then offered (offers_scram more) else Asked (Unknown kind))))) ≡ Asked q → IsFirst q kind more
first_by cred q kind [] true b c d eb ec ed k e = absurd (let z : LetIn ≡ Asked q = e in cc)
first_by cred q kind (x ∷ xs) true b c d eb ec ed k e = absurd (let z : Other ≡ Asked q = e in cc)
first_by cred q kind [] false true c d eb ec ed k e = first_so Cleartext q kind [] e (eqb-true kind ASKS_CLEARTEXT eb, refl)
first_by cred q kind (x ∷ xs) false true c d eb ec ed k e = absurd (let z : Other ≡ Asked q = e in cc)
first_by cred q kind more false false true d eb ec ed k e = salted_first q kind more (eqb-true kind ASKS_MD5 ec) e
first_by cred q kind more false false false true eb ec ed k e = offered_first cred q kind more (offers_scram more) refl (eqb-true kind ASKS_SASL ed) k e
first_by cred q kind more false false false false eb ec ed k e = unknown_never cred q kind k e

-- it is said in the frame
record SaysFirst (q : ServerQuestion) (f : FrameOf) : Type 0 where
  pub number : ℕ
  pub more : List ℕ
  pub body : authentication_of f.body ≡ Ok (number, more)
  pub first : IsFirst q number more

says_first : (cred : CredentialOf) (q : ServerQuestion) (f : FrameOf) (r : Result (ℕ × List ℕ) ViewError) → authentication_of f.body ≡ r → can_answer cred q ≡ true → asked_part r ≡ Asked q → SaysFirst q f
says_first cred q f (Err fault) is can e = absurd (let z : Other ≡ Asked q = e in cc)
says_first cred q f (Ok x) is can e = record {
  number = x.0;
  more = x.1;
  body = is;
  first = first_by cred q x.0 x.1 (x.0 == ASKS_NOTHING) (x.0 == ASKS_CLEARTEXT) (x.0 == ASKS_MD5) (x.0 == ASKS_SASL) refl refl refl can e;
}

-- it says something, and never that all is ready
says : StartProgress → Bool
says Nothing = false
says Ready = false
says (Asked q) = true
says Proved = true
says LetIn = true
says Refused = true
says Other = true

salted_says : (more : List ℕ) → says (salted more) ≡ true
unfolding says
salted_says [] = refl
salted_says (a ∷ []) = refl
salted_says (a ∷ b ∷ []) = refl
salted_says (a ∷ b ∷ c ∷ []) = refl
salted_says (a ∷ b ∷ c ∷ d ∷ []) = refl
salted_says (a ∷ b ∷ c ∷ d ∷ x ∷ xs) = refl

offered_says : (b : Bool) → says (offered b) ≡ true
unfolding says
offered_says true = refl
offered_says false = refl

asked_says : (kind : ℕ) (more : List ℕ) (a b c d : Bool)
    → says (if a then bare LetIn more else (if b then bare (Asked Cleartext) more else (if c then salted more else (if d then offered (offers_scram more) else Asked (Unknown kind))))) ≡ true
unfolding says
asked_says kind [] true b c d = refl
asked_says kind (x ∷ xs) true b c d = refl
asked_says kind [] false true c d = refl
asked_says kind (x ∷ xs) false true c d = refl
asked_says kind more false false true d = salted_says more
asked_says kind more false false false true = offered_says (offers_scram more)
asked_says kind more false false false false = refl

part_says : (r : Result (ℕ × List ℕ) ViewError) → says (asked_part r) ≡ true
unfolding says
part_says (Err fault) = refl
part_says (Ok x) = asked_says x.0 x.1 (x.0 == ASKS_NOTHING) (x.0 == ASKS_CLEARTEXT) (x.0 == ASKS_MD5) (x.0 == ASKS_SASL)

-- ---- behind AuthenticationOk

record Welcomes (fs : List FrameOf) : Type 0 where
  pub welcome : List FrameOf
  pub whole : fs ≡ welcome ++ ready_for_query IDLE ∷ []
  pub is_welcome : AllByRecursion IsOfWelcome welcome

both_parts : (a b : Bool) → (a && b) ≡ true → (a ≡ true) × (b ≡ true)
both_parts true true e = (refl, refl)
both_parts true false e = absurd (true≢false (sym e))
both_parts false b e = absurd (true≢false (sym e))

idle_is : (f : FrameOf) → is_idle f ≡ true → f ≡ ready_for_query IDLE
idle_is f e =
    let h = both_parts (f.kind == READY_FOR_QUERY) (bytes_eq f.body (IDLE ∷ [])) e in
    let k = eqb-true f.kind READY_FOR_QUERY h.0 in
    let b = (bytes_eq-Decides f.body (IDLE ∷ [])).0 h.1 in
    λ i. record { kind = k i; body = b i }

of_welcome : (f : FrameOf) → is_welcome f.kind ≡ true → IsOfWelcome f
of_welcome f e = ⊎_elim (λ n. inl (eqb-true f.kind NOTICE_RESPONSE n))
    (λ r. inr (⊎_elim (λ p. inl (eqb-true f.kind PARAMETER_STATUS p)) (λ k. inr (eqb-true f.kind BACKEND_KEY_DATA k)) (or_parts _ _ r)))
    (or_parts _ _ e)

welcome_by : (cred : CredentialOf) (f : FrameOf) (fs : List FrameOf) (w i : Bool) → is_welcome f.kind ≡ w → is_idle f ≡ i → (heard_all cred LetIn fs ≡ Ready → Welcomes fs)
    → heard_all cred (if w then LetIn else (if i then Ready else refused f.kind)) fs ≡ Ready → Welcomes (f ∷ fs)
welcome_by cred f fs true i ew ei go e =
    let r = go e in
    record { welcome = f ∷ r.welcome; whole = ap (λ (x : List FrameOf). f ∷ x) r.whole; is_welcome = (of_welcome f ew, r.is_welcome) }
welcome_by cred f fs false true ew ei go e = record { welcome = []; whole = ap (λ (x : List FrameOf). f ∷ x) (ready_last cred fs e) ∙ ap (λ (x : FrameOf). x ∷ []) (idle_is f ei); is_welcome = tt }
welcome_by cred f fs false false ew ei go e = absurd (refused_never cred f.kind fs e)

welcome_of : (cred : CredentialOf) (fs : List FrameOf) → heard_all cred LetIn fs ≡ Ready → Welcomes fs
welcome_of cred [] e = absurd (let z : LetIn ≡ Ready = e in cc)
welcome_of cred (f ∷ fs) e = welcome_by cred f fs (is_welcome f.kind) (is_idle f) refl refl (welcome_of cred fs) e

-- ---- behind a question

-- what is said up to AuthenticationOk
record Enters (cred : CredentialOf) (questions : List grammar.Question) (fs : List FrameOf) : Type 0 where
  pub asking : List FrameOf
  pub lets_in : FrameOf
  pub rest : List FrameOf
  pub whole : fs ≡ asking ++ (lets_in ∷ rest)
  pub are_said : AreSaid questions asking
  pub is_let_in : LetsIn lets_in
  pub goes_on : heard_all cred LetIn rest ≡ Ready

behind_notice : (questions : List grammar.Question) (f : FrameOf) (asking : List FrameOf) → IsNotice f → AreSaid questions asking → AreSaid questions (f ∷ asking)
behind_notice [] f asking n x = (n, x)
behind_notice (q ∷ questions) f asking n x = inl (n, x)

enters_notice : (cred : CredentialOf) (questions : List grammar.Question) (f : FrameOf) (fs : List FrameOf) → IsNotice f → Enters cred questions fs → Enters cred questions (f ∷ fs)
enters_notice cred questions f fs n r = record {
  asking = f ∷ r.asking;
  lets_in = r.lets_in;
  rest = r.rest;
  whole = ap (λ (x : List FrameOf). f ∷ x) r.whole;
  are_said = behind_notice questions f r.asking n r.are_said;
  is_let_in = r.is_let_in;
  goes_on = r.goes_on;
}

enters_said : (cred : CredentialOf) (q : grammar.Question) (questions : List grammar.Question) (f : FrameOf) (fs : List FrameOf) → Says q f → Enters cred questions fs → Enters cred (q ∷ questions) (f ∷ fs)
enters_said cred q questions f fs s r = record {
  asking = f ∷ r.asking;
  lets_in = r.lets_in;
  rest = r.rest;
  whole = ap (λ (x : List FrameOf). f ∷ x) r.whole;
  are_said = inr (s, r.are_said);
  is_let_in = r.is_let_in;
  goes_on = r.goes_on;
}

-- a notice, an Authentication message, or neither
enters_on : (cred : CredentialOf) (questions : List grammar.Question) (h next : StartProgress) (f : FrameOf) (fs : List FrameOf) (n a : Bool) → (f.kind == NOTICE_RESPONSE) ≡ n → (f.kind == AUTHENTICATION) ≡ a
    → (heard_all cred h fs ≡ Ready → Enters cred questions fs) → (f.kind ≡ AUTHENTICATION → heard_all cred next fs ≡ Ready → Enters cred questions (f ∷ fs))
    → heard_all cred (if n then h else (if a then next else refused f.kind)) fs ≡ Ready → Enters cred questions (f ∷ fs)
enters_on cred questions h next f fs true a en ea stays goes e = enters_notice cred questions f fs (eqb-true f.kind NOTICE_RESPONSE en) (stays e)
enters_on cred questions h next f fs false true en ea stays goes e = goes (eqb-true f.kind AUTHENTICATION ea) e
enters_on cred questions h next f fs false false en ea stays goes e = absurd (refused_never cred f.kind fs e)

lets_in : (cred : CredentialOf) (p : StartProgress) (f : FrameOf) (fs : List FrameOf) → asked f.body ≡ p → f.kind ≡ AUTHENTICATION → heard_all cred (only_let_in p) fs ≡ Ready → Enters cred [] (f ∷ fs)
lets_in cred LetIn f fs e k h = record { asking = []; lets_in = f; rest = fs; whole = refl; are_said = tt; is_let_in = (k, let_in_part (authentication_of f.body) e); goes_on = h }
lets_in cred Nothing f fs e k h = absurd (other_never cred fs h)
lets_in cred (Asked q) f fs e k h = absurd (other_never cred fs h)
lets_in cred Proved f fs e k h = absurd (other_never cred fs h)
lets_in cred Ready f fs e k h = absurd (other_never cred fs h)
lets_in cred Refused f fs e k h = absurd (other_never cred fs h)
lets_in cred Other f fs e k h = absurd (other_never cred fs h)

enters_proved : (cred : CredentialOf) (fs : List FrameOf) → heard_all cred Proved fs ≡ Ready → Enters cred [] fs
enters_proved cred [] e = absurd (let z : Proved ≡ Ready = e in cc)
enters_proved cred (f ∷ fs) e =
    enters_on cred [] Proved (let_in_by f.body) f fs (f.kind == NOTICE_RESPONSE) (f.kind == AUTHENTICATION) refl refl (enters_proved cred fs) (λ k. lets_in cred (asked f.body) f fs refl k) e

-- what still has to be said behind the answer to a question
abbrev left_by : ServerQuestion → List grammar.Question
left_by Cleartext = []
left_by (Md5 salt) = []
left_by Scram = grammar.Challenge ∷ grammar.Proof ∷ []
left_by (Challenge exchange) = grammar.Proof ∷ []
left_by (Unknown number) = []

-- of a password and of a digest nothing
plain_is : (cred : CredentialOf) (r : Result (ℕ × List ℕ) ViewError) → followed_part cred Cleartext r ≡ only_let_in (asked_part r)
plain_is cred (Ok x) = refl
plain_is cred (Err fault) = refl

digest_is : (cred : CredentialOf) (salt : _) (r : Result (ℕ × List ℕ) ViewError) → followed_part cred (Md5 salt) r ≡ only_let_in (asked_part r)
digest_is cred salt (Ok x) = refl
digest_is cred salt (Err fault) = refl

module _ (cred : CredentialOf) where
  enters_challenged : (f : FrameOf) (fs : List FrameOf) (kind : ℕ) (more : List ℕ) (b : Bool) (x : Option ExchangeOf) → authentication_of f.body ≡ Ok (kind, more) → f.kind ≡ AUTHENTICATION → (kind == SASL_CONTINUES) ≡ b
      → ((exchange : ExchangeOf) → heard_all cred (Asked (Challenge exchange)) fs ≡ Ready → Enters cred (grammar.Proof ∷ []) fs)
      → heard_all cred (if b then challenged x else Other) fs ≡ Ready → Enters cred (grammar.Challenge ∷ grammar.Proof ∷ []) (f ∷ fs)
  enters_challenged f fs kind more true (Some exchange) is k eb go e =
      enters_said cred grammar.Challenge (grammar.Proof ∷ []) f fs (record { kind = k; number = kind; more = more; body = is; said = eqb-true kind SASL_CONTINUES eb }) (go exchange e)
  enters_challenged f fs kind more true None is k eb go e = absurd (other_never cred fs e)
  enters_challenged f fs kind more false x is k eb go e = absurd (other_never cred fs e)

  enters_said_proof : (f : FrameOf) (fs : List FrameOf) (kind : ℕ) (more : List ℕ) (b c : Bool) → authentication_of f.body ≡ Ok (kind, more) → f.kind ≡ AUTHENTICATION → (kind == SASL_ENDS) ≡ b
      → heard_all cred (if b && c then Proved else Other) fs ≡ Ready → Enters cred (grammar.Proof ∷ []) (f ∷ fs)
  enters_said_proof f fs kind more true true is k eb e =
      enters_said cred grammar.Proof [] f fs (record { kind = k; number = kind; more = more; body = is; said = eqb-true kind SASL_ENDS eb }) (enters_proved cred fs e)
  enters_said_proof f fs kind more true false is k eb e = absurd (other_never cred fs e)
  enters_said_proof f fs kind more false c is k eb e = absurd (other_never cred fs e)

  enters_followed : (q : ServerQuestion) (f : FrameOf) (fs : List FrameOf) (r : Result (ℕ × List ℕ) ViewError) → authentication_of f.body ≡ r → f.kind ≡ AUTHENTICATION
      → ((exchange : ExchangeOf) → heard_all cred (Asked (Challenge exchange)) fs ≡ Ready → Enters cred (grammar.Proof ∷ []) fs) → heard_all cred (followed_part cred q r) fs ≡ Ready → Enters cred (left_by q) (f ∷ fs)
  enters_followed Cleartext f fs r is k go e = lets_in cred (asked_part r) f fs (ap asked_part is) k (ap (λ (h : StartProgress). heard_all cred h fs) (sym (plain_is cred r)) ∙ e)
  enters_followed (Md5 salt) f fs r is k go e = lets_in cred (asked_part r) f fs (ap asked_part is) k (ap (λ (h : StartProgress). heard_all cred h fs) (sym (digest_is cred salt r)) ∙ e)
  enters_followed Scram f fs (Ok x) is k go e = enters_challenged f fs x.0 x.1 (x.0 == SASL_CONTINUES) (exchange_of cred x.1) is k refl go e
  enters_followed Scram f fs (Err fault) is k go e = absurd (other_never cred fs e)
  enters_followed (Challenge exchange) f fs (Ok x) is k go e = enters_said_proof f fs x.0 x.1 (x.0 == SASL_ENDS) (bytes_eq x.1 exchange.proof) is k refl e
  enters_followed (Challenge exchange) f fs (Err fault) is k go e = absurd (other_never cred fs e)
  enters_followed (Unknown number) f fs (Ok x) is k go e = absurd (other_never cred fs e)
  enters_followed (Unknown number) f fs (Err fault) is k go e = absurd (other_never cred fs e)

  enters_asked : (q : ServerQuestion) (fs : List FrameOf) → heard_all cred (Asked q) fs ≡ Ready → Enters cred (left_by q) fs
  enters_asked q [] e = absurd (let z : Asked q ≡ Ready = e in cc)
  enters_asked q (f ∷ fs) e = by (λ i. enters_asked q fs i) (λ exchange i. enters_asked (Challenge exchange) fs i) (can_answer cred q) refl e
    where
      by : (heard_all cred (Asked q) fs ≡ Ready → Enters cred (left_by q) fs) → ((exchange : ExchangeOf) → heard_all cred (Asked (Challenge exchange)) fs ≡ Ready → Enters cred (grammar.Proof ∷ []) fs)
          → (b : Bool) → can_answer cred q ≡ b → heard_all cred (if b then after_question cred q f else Asked q) fs ≡ Ready → Enters cred (left_by q) (f ∷ fs)
      by stays goes false k i = absurd (unanswered_never cred q fs k i)
      by stays goes true k i =
          enters_on cred (left_by q) (Asked q) (followed cred q f.body) f fs (f.kind == NOTICE_RESPONSE) (f.kind == AUTHENTICATION) refl refl stays
          (λ a. enters_followed q f fs (authentication_of f.body) refl a goes) i

-- ---- from the first frame on

record Opens (cred : CredentialOf) (fs : List FrameOf) : Type 0 where
  pub way : Way
  pub enters : Enters cred (questions_of way) fs

-- the way of asking that a first question begins
says_way : (cred : CredentialOf) (q : ServerQuestion) (f : FrameOf) (fs : List FrameOf) → f.kind ≡ AUTHENTICATION → SaysFirst q f → Enters cred (left_by q) fs → Opens cred (f ∷ fs)
says_way cred Cleartext f fs k s x = record { way = ByPassword; enters = enters_said cred grammar.Password [] f fs (record { kind = k; number = s.number; more = s.more; body = s.body; said = s.first }) x }
says_way cred (Md5 salt) f fs k s x = record { way = ByDigest; enters = enters_said cred grammar.Digest [] f fs (record { kind = k; number = s.number; more = s.more; body = s.body; said = s.first }) x }
says_way cred Scram f fs k s x = record {
  way = ByScram;
  enters = enters_said cred grammar.Mechanism (grammar.Challenge ∷ grammar.Proof ∷ []) f fs (record { kind = k; number = s.number; more = s.more; body = s.body; said = s.first }) x;
}
says_way cred (Challenge exchange) f fs k s x = absurd s.first
says_way cred (Unknown number) f fs k s x = absurd s.first

opens_in : (cred : CredentialOf) (p : StartProgress) (f : FrameOf) (fs : List FrameOf) → asked f.body ≡ p → f.kind ≡ AUTHENTICATION → heard_all cred p fs ≡ Ready → Opens cred (f ∷ fs)
unfolding says
opens_in cred LetIn f fs e k h = record { way = Trusts; enters = lets_in cred LetIn f fs e k h }
opens_in cred (Asked q) f fs e k h = says_way cred q f fs k (says_first cred q f (authentication_of f.body) refl (answerable cred q fs h) e) (enters_asked cred q fs h)
opens_in cred Nothing f fs e k h = absurd (true≢false (sym (part_says (authentication_of f.body)) ∙ ap says e))
opens_in cred Ready f fs e k h = absurd (true≢false (sym (part_says (authentication_of f.body)) ∙ ap says e))
opens_in cred Proved f fs e k h = proved_first (authentication_of f.body) e
  where
    salted_not : {A : Type 0} (more : List ℕ) → salted more ≡ Proved → A
    salted_not [] i = absurd cc
    salted_not (a ∷ []) i = absurd cc
    salted_not (a ∷ b ∷ []) i = absurd cc
    salted_not (a ∷ b ∷ c ∷ []) i = absurd cc
    salted_not (a ∷ b ∷ c ∷ d ∷ []) i = absurd cc
    salted_not (a ∷ b ∷ c ∷ d ∷ x ∷ more) i = absurd cc

    bare_not : {A : Type 0} (more : List ℕ) → bare LetIn more ≡ Proved → A
    bare_not [] i = absurd cc
    bare_not (b ∷ more) i = absurd cc

    password_not : {A : Type 0} (more : List ℕ) → bare (Asked Cleartext) more ≡ Proved → A
    password_not [] i = absurd cc
    password_not (b ∷ more) i = absurd cc

    offered_not : {A : Type 0} (b : Bool) → offered b ≡ Proved → A
    offered_not true i = absurd cc
    offered_not false i = absurd cc

    asked_not : {A : Type 0} (kind : ℕ) (more : List ℕ) (a b c d : Bool)
        → (if a then bare LetIn more else (if b then bare (Asked Cleartext) more else (if c then salted more else (if d then offered (offers_scram more) else Asked (Unknown kind))))) ≡ Proved → A
    asked_not kind more true b c d i = bare_not more i
    asked_not kind more false true c d i = password_not more i
    asked_not kind more false false true d i = salted_not more i
    asked_not kind more false false false true i = offered_not (offers_scram more) i
    asked_not kind more false false false false i = absurd cc

    proved_first : {A : Type 0} (r : Result (ℕ × List ℕ) ViewError) → asked_part r ≡ Proved → A
    proved_first (Ok x) i = asked_not x.0 x.1 (x.0 == ASKS_NOTHING) (x.0 == ASKS_CLEARTEXT) (x.0 == ASKS_MD5) (x.0 == ASKS_SASL) i
    proved_first (Err fault) i = absurd cc
opens_in cred Refused f fs e k h = absurd (let z : Refused ≡ Ready = sym (refused_stays cred fs) ∙ h in cc)
opens_in cred Other f fs e k h = absurd (other_never cred fs h)

opens_by : (cred : CredentialOf) (f : FrameOf) (fs : List FrameOf) (n a : Bool) → (f.kind == NOTICE_RESPONSE) ≡ n → (f.kind == AUTHENTICATION) ≡ a → (heard_all cred Nothing fs ≡ Ready → Opens cred fs)
    → heard_all cred (if n then Nothing else (if a then asked f.body else refused f.kind)) fs ≡ Ready → Opens cred (f ∷ fs)
opens_by cred f fs true a en ea go e = let r = go e in record { way = r.way; enters = enters_notice cred (questions_of r.way) f fs (eqb-true f.kind NOTICE_RESPONSE en) r.enters }
opens_by cred f fs false true en ea go e = opens_in cred (asked f.body) f fs refl (eqb-true f.kind AUTHENTICATION ea) e
opens_by cred f fs false false en ea go e = absurd (refused_never cred f.kind fs e)

opens_of : (cred : CredentialOf) (fs : List FrameOf) → heard_all cred Nothing fs ≡ Ready → Opens cred fs
opens_of cred [] e = absurd (let z : Nothing ≡ Ready = e in cc)
opens_of cred (f ∷ fs) e = opens_by cred f fs (f.kind == NOTICE_RESPONSE) (f.kind == AUTHENTICATION) refl refl (opens_of cred fs) e

pub start_answer : ReadyIsAnswer
start_answer cred fs e =
    let o = opens_of cred fs e in
    let n = o.enters in
    let w = welcome_of cred n.rest n.goes_on in
    record {
      asking = n.asking;
      lets_in = n.lets_in;
      welcome = w.welcome;
      whole = n.whole ∙ ap (λ (x : List FrameOf). n.asking ++ (n.lets_in ∷ x)) w.whole;
      is_asking = (o.way, n.are_said);
      is_let_in = n.is_let_in;
      is_welcome = w.is_welcome;
    }
