-- How far a start has come, by a front of what is answered.
use Rattle.std.proofs.Common.{◌≡◌, ◌≢◌, ℕ, Bool, true, false, List, [], ◌∷◌, ◌++◌, refl, sym, ap, ◌∙◌, Option, Some, None, Result, Ok, Err}
use Rattle.std.specs.Prelude.{◌==◌, ◌&&◌, ◌||◌, if◌then◌else◌}
use Rattle.std.proofs.lemmas.Bool.{eqb-true, true≢false}
use Rattle.frame_view.specs.declared.server.TheConstants.{AUTHENTICATION, ERROR_RESPONSE, NOTICE_RESPONSE, READY_FOR_QUERY}
use Rattle.frame_view.specs.Frames.{FrameOf, spelling}
use Rattle.message_view.specs.declared.ViewError.{ViewError}
use Rattle.message_view.specs.declared.kinds.TheConstants.{ASKS_NOTHING, ASKS_CLEARTEXT, ASKS_MD5}
use Rattle.message_view.specs.Reading.{authentication_of}
use Rattle.session_laws.specs.Laws.{has_ready}
use Rattle.credentials.specs.Credentials.{CredentialOf}
use Rattle.link_start.specs.declared.start_reply.StartProgress.{StartProgress}
use Rattle.link_start.specs.declared.start_reply.StartProgress.TheVariants.{Nothing, Asked, Proved, LetIn, Ready, Refused, Other}
use Rattle.link_start.specs.declared.start_reply.ServerQuestion.{ServerQuestion}
use Rattle.link_start.specs.declared.start_reply.ServerQuestion.TheVariants.{Cleartext, Md5, Scram, Challenge, Unknown}
use Rattle.credentials.specs.Exchanges.{ExchangeOf, exchange_of}
use Rattle.link_run.specs.Dialogues.{offers_scram}
use Rattle.link_run.specs.declared.sasl.TheConstants.{ASKS_SASL, SASL_CONTINUES, SASL_ENDS}
use Rattle.link_start.specs.Questions.{answers_wanted, can_answer}
use Rattle.link_start.specs.StartReply.{bare, salted, offered, asked_by, asked_part, asked, only_let_in, let_in_by, challenged, challenged_by, proved_by, followed_by, followed_part, followed, on_authentication, after_question, is_idle, is_welcome, heard_by, heard_all, error_in}
use Rattle.link_start.specs.Starts.{IsError}

-- ---- one after the other

pub heard-append : (cred : CredentialOf) (h : StartProgress) (xs ys : List FrameOf) → heard_all cred h (xs ++ ys) ≡ heard_all cred (heard_all cred h xs) ys
heard-append cred h [] ys = refl
heard-append cred h (x ∷ xs) ys = heard-append cred (heard_by cred h x) xs ys

pub other_stays : (cred : CredentialOf) (fs : List FrameOf) → heard_all cred Other fs ≡ Other
other_stays cred [] = refl
other_stays cred (f ∷ fs) = other_stays cred fs

pub refused_stays : (cred : CredentialOf) (fs : List FrameOf) → heard_all cred Refused fs ≡ Refused
refused_stays cred [] = refl
refused_stays cred (f ∷ fs) = refused_stays cred fs

-- a question that can't be answered stays what is heard
pub unanswered_stays : (cred : CredentialOf) (q : ServerQuestion) (fs : List FrameOf) → can_answer cred q ≡ false → heard_all cred (Asked q) fs ≡ Asked q
unanswered_stays cred q [] e = refl
unanswered_stays cred q (f ∷ fs) e = ap (λ (b : Bool). heard_all cred (if b then after_question cred q f else Asked q) fs) e ∙ unanswered_stays cred q fs e

pub no_other : (cred : CredentialOf) (got more : List FrameOf) → heard_all cred Nothing (got ++ more) ≢ Other → heard_all cred Nothing got ≢ Other
no_other cred got more n e = n (heard-append cred Nothing got more ∙ ap (λ (h : StartProgress). heard_all cred h more) e ∙ other_stays cred more)

pub still_refused : (cred : CredentialOf) (got more : List FrameOf) → heard_all cred Nothing got ≡ Refused → heard_all cred Nothing (got ++ more) ≡ Refused
still_refused cred got more e = heard-append cred Nothing got more ∙ ap (λ (h : StartProgress). heard_all cred h more) e ∙ refused_stays cred more

-- nothing follows ReadyForQuery
pub ready_is_last : (cred : CredentialOf) (got more : List FrameOf) → heard_all cred Nothing (got ++ more) ≢ Other → heard_all cred Nothing got ≡ Ready → more ≡ []
ready_is_last cred got [] n e = refl
ready_is_last cred got (m ∷ ms) n e = absurd (n (heard-append cred Nothing got (m ∷ ms) ∙ ap (λ (h : StartProgress). heard_all cred h (m ∷ ms)) e ∙ other_stays cred ms))

-- ---- questions

-- no question any more
abbrev pub IsPast : StartProgress → Type 0
IsPast Nothing = ⊥
IsPast (Asked q) = ⊥
IsPast Proved = Unit {0}
IsPast LetIn = Unit {0}
IsPast Ready = Unit {0}
IsPast Refused = Unit {0}
IsPast Other = Unit {0}

refused-past : (b : Bool) → IsPast (if b then Refused else Other)
refused-past true = tt
refused-past false = tt

only_let_in-past : (h : StartProgress) → IsPast (only_let_in h)
only_let_in-past Nothing = tt
only_let_in-past (Asked q) = tt
only_let_in-past Proved = tt
only_let_in-past LetIn = tt
only_let_in-past Ready = tt
only_let_in-past Refused = tt
only_let_in-past Other = tt

proved-past : (next : StartProgress) (a b c : Bool) → IsPast next → IsPast (if a then Proved else (if b then next else (if c then Refused else Other)))
proved-past next true b c p = tt
proved-past next false true c p = p
proved-past next false false c p = refused-past c

welcomed-past : (a b c : Bool) → IsPast (if a then LetIn else (if b then Ready else (if c then Refused else Other)))
welcomed-past true b c = tt
welcomed-past false true c = tt
welcomed-past false false c = refused-past c

past_goes : (cred : CredentialOf) (h : StartProgress) (f : FrameOf) → IsPast h → IsPast (heard_by cred h f)
past_goes cred Nothing f p = absurd p
past_goes cred (Asked q) f p = absurd p
past_goes cred Proved f p = proved-past (let_in_by f.body) (f.kind == NOTICE_RESPONSE) (f.kind == AUTHENTICATION) (f.kind == ERROR_RESPONSE) (only_let_in-past (asked f.body))
past_goes cred LetIn f p = welcomed-past (is_welcome f.kind) (is_idle f) (f.kind == ERROR_RESPONSE)
past_goes cred Ready f p = tt
past_goes cred Refused f p = tt
past_goes cred Other f p = tt

pub never_asked : {A : Type 0} (cred : CredentialOf) (h : StartProgress) (fs : List FrameOf) (q : ServerQuestion) → IsPast h → heard_all cred h fs ≡ Asked q → A
never_asked cred Nothing [] q p e = absurd p
never_asked cred (Asked r) [] q p e = absurd p
never_asked cred Proved [] q p e = absurd cc
never_asked cred LetIn [] q p e = absurd cc
never_asked cred Ready [] q p e = absurd cc
never_asked cred Refused [] q p e = absurd cc
never_asked cred Other [] q p e = absurd cc
never_asked cred h (f ∷ fs) q p e = never_asked cred (heard_by cred h f) fs q (past_goes cred h f p) e

question_of : StartProgress → ServerQuestion → ServerQuestion
question_of (Asked q) other = q
question_of Nothing other = other
question_of Proved other = other
question_of LetIn other = other
question_of Ready other = other
question_of Refused other = other
question_of Other other = other

pub same_question : (p q : ServerQuestion) → Asked p ≡ Asked q → p ≡ q
unfolding question_of
same_question p q e = ap (λ (h : StartProgress). question_of h q) e

-- the answers that what was heard so far takes
abbrev pub wanted_by : StartProgress → ℕ
wanted_by Nothing = 0
wanted_by (Asked q) = answers_wanted q
wanted_by Proved = 2
wanted_by LetIn = 2
wanted_by Ready = 2
wanted_by Refused = 2
wanted_by Other = 2

-- ---- ReadyForQuery, and errors

-- no ReadyForQuery, and no error
abbrev IsOpen : StartProgress → Type 0
IsOpen Nothing = Unit {0}
IsOpen (Asked q) = Unit {0}
IsOpen Proved = Unit {0}
IsOpen LetIn = Unit {0}
IsOpen Ready = ⊥
IsOpen Refused = ⊥
IsOpen Other = Unit {0}

bare-open : (h : StartProgress) (more : List ℕ) → IsOpen h → IsOpen (bare h more)
bare-open h [] o = o
bare-open h (b ∷ bs) o = tt

salted-open : (more : List ℕ) → IsOpen (salted more)
salted-open [] = tt
salted-open (a ∷ []) = tt
salted-open (a ∷ b ∷ []) = tt
salted-open (a ∷ b ∷ c ∷ []) = tt
salted-open (a ∷ b ∷ c ∷ d ∷ []) = tt
salted-open (a ∷ b ∷ c ∷ d ∷ e ∷ more) = tt

offered-open : (d : Bool) → IsOpen (offered d)
offered-open true = tt
offered-open false = tt

asked_by-open : (a b c d : Bool) (kind : ℕ) (more : List ℕ) → IsOpen (if a then bare LetIn more else (if b then bare (Asked Cleartext) more else (if c then salted more else (if d then offered (offers_scram more) else Asked (Unknown kind)))))
asked_by-open true b c d kind more = bare-open LetIn more tt
asked_by-open false true c d kind more = bare-open (Asked Cleartext) more tt
asked_by-open false false true d kind more = salted-open more
asked_by-open false false false true kind more = offered-open (offers_scram more)
asked_by-open false false false false kind more = tt

asked_kind-open : (kind : ℕ) (more : List ℕ) → IsOpen (asked_by kind more)
asked_kind-open kind more = asked_by-open (kind == ASKS_NOTHING) (kind == ASKS_CLEARTEXT) (kind == ASKS_MD5) (kind == ASKS_SASL) kind more

asked-open : (r : Result (ℕ × List ℕ) ViewError) → IsOpen (asked_part r)
asked-open (Ok x) = asked_kind-open x.0 x.1
asked-open (Err fault) = tt

only-open : (h : StartProgress) → IsOpen (only_let_in h)
only-open Nothing = tt
only-open (Asked q) = tt
only-open Proved = tt
only-open LetIn = tt
only-open Ready = tt
only-open Refused = tt
only-open Other = tt

challenged-open : (b : Bool) (x : Option ExchangeOf) → IsOpen (if b then challenged x else Other)
challenged-open true (Some exchange) = tt
challenged-open true None = tt
challenged-open false x = tt

proved-open : (b : Bool) → IsOpen (if b then Proved else Other)
proved-open true = tt
proved-open false = tt

followed_by-open : (cred : CredentialOf) (q : ServerQuestion) (kind : ℕ) (more : List ℕ) → IsOpen (followed_by cred q kind more)
followed_by-open cred Cleartext kind more = only-open (asked_by kind more)
followed_by-open cred (Md5 salt) kind more = only-open (asked_by kind more)
followed_by-open cred Scram kind more = challenged-open (kind == SASL_CONTINUES) (exchange_of cred more)
followed_by-open cred (Challenge exchange) kind more = proved-open _
followed_by-open cred (Unknown number) kind more = tt

followed-open : (cred : CredentialOf) (q : ServerQuestion) (r : Result (ℕ × List ℕ) ViewError) → IsOpen (followed_part cred q r)
followed-open cred q (Ok x) = followed_by-open cred q x.0 x.1
followed-open cred q (Err fault) = tt

not_ready : (h : StartProgress) → IsOpen h → h ≡ Ready → ⊥
not_ready Ready o e = o
not_ready Nothing o e = cc
not_ready (Asked q) o e = cc
not_ready Proved o e = cc
not_ready LetIn o e = cc
not_ready Refused o e = o
not_ready Other o e = cc

not_refused : (h : StartProgress) → IsOpen h → h ≡ Refused → ⊥
not_refused Ready o e = o
not_refused Nothing o e = cc
not_refused (Asked q) o e = cc
not_refused Proved o e = cc
not_refused LetIn o e = cc
not_refused Refused o e = o
not_refused Other o e = cc

from_refused : (c : Bool) → (if c then Refused else Other) ≡ Ready → ⊥
from_refused true e = cc
from_refused false e = cc

is_refused : (c : Bool) → (if c then Refused else Other) ≡ Refused → c ≡ true
is_refused true e = refl
is_refused false e = absurd cc

-- neither comes of an Authentication message, or of a notice
not_ready_on : (h next : StartProgress) (a b c : Bool) → h ≢ Ready → (next ≡ Ready → ⊥) → (if a then h else (if b then next else (if c then Refused else Other))) ≡ Ready → ⊥
not_ready_on h next true b c n o e = n e
not_ready_on h next false true c n o e = o e
not_ready_on h next false false c n o e = from_refused c e

refused_on : (h next : StartProgress) (a b c : Bool) → h ≢ Refused → (next ≡ Refused → ⊥) → (if a then h else (if b then next else (if c then Refused else Other))) ≡ Refused → c ≡ true
refused_on h next true b c n o e = absurd (n e)
refused_on h next false true c n o e = absurd (o e)
refused_on h next false false c n o e = is_refused c e

-- ReadyForQuery comes of a frame of that type alone
by_ready : (cred : CredentialOf) (h : StartProgress) (f : FrameOf) → h ≢ Ready → heard_by cred h f ≡ Ready → (f.kind == READY_FOR_QUERY) ≡ true
by_ready cred Nothing f n e = absurd (not_ready_on Nothing (asked f.body) (f.kind == NOTICE_RESPONSE) (f.kind == AUTHENTICATION) (f.kind == ERROR_RESPONSE) n (not_ready (asked f.body) (asked-open (authentication_of f.body))) e)
by_ready cred (Asked q) f n e = absurd (by (can_answer cred q) e)
  where
    by : (k : Bool) → (if k then after_question cred q f else Asked q) ≡ Ready → ⊥
    by false h = n h
    by true h = not_ready_on (Asked q) (followed cred q f.body) (f.kind == NOTICE_RESPONSE) (f.kind == AUTHENTICATION) (f.kind == ERROR_RESPONSE) n (not_ready (followed cred q f.body) (followed-open cred q (authentication_of f.body))) h
by_ready cred Proved f n e = absurd (not_ready_on Proved (let_in_by f.body) (f.kind == NOTICE_RESPONSE) (f.kind == AUTHENTICATION) (f.kind == ERROR_RESPONSE) n (not_ready (let_in_by f.body) (only-open (asked f.body))) e)
by_ready cred LetIn f n e = by (is_welcome f.kind) (f.kind == READY_FOR_QUERY) (is_idle f) (f.kind == ERROR_RESPONSE) (λ k. idle_kind f k) e
  where
    idle_kind : (g : FrameOf) → is_idle g ≡ true → (g.kind == READY_FOR_QUERY) ≡ true
    idle_kind g k = first (g.kind == READY_FOR_QUERY) _ k
      where
        first : (x y : Bool) → (x && y) ≡ true → x ≡ true
        first true y k = refl
        first false y k = k

    by : (a k i c : Bool) → (i ≡ true → k ≡ true) → (if a then LetIn else (if i then Ready else (if c then Refused else Other))) ≡ Ready → k ≡ true
    by true k i c go h = absurd cc
    by false k true c go h = go refl
    by false k false c go h = absurd (from_refused c h)
by_ready cred Ready f n e = absurd (n refl)
by_ready cred Refused f n e = absurd cc
by_ready cred Other f n e = absurd cc

-- and a refusal of an ErrorResponse
by_refused : (cred : CredentialOf) (h : StartProgress) (f : FrameOf) → h ≢ Refused → heard_by cred h f ≡ Refused → (f.kind == ERROR_RESPONSE) ≡ true
by_refused cred Nothing f n e = refused_on Nothing (asked f.body) (f.kind == NOTICE_RESPONSE) (f.kind == AUTHENTICATION) (f.kind == ERROR_RESPONSE) n (not_refused (asked f.body) (asked-open (authentication_of f.body))) e
by_refused cred (Asked q) f n e = by (can_answer cred q) e
  where
    by : (k : Bool) → (if k then after_question cred q f else Asked q) ≡ Refused → (f.kind == ERROR_RESPONSE) ≡ true
    by false h = absurd (n h)
    by true h = refused_on (Asked q) (followed cred q f.body) (f.kind == NOTICE_RESPONSE) (f.kind == AUTHENTICATION) (f.kind == ERROR_RESPONSE) n (not_refused (followed cred q f.body) (followed-open cred q (authentication_of f.body))) h
by_refused cred Proved f n e = refused_on Proved (let_in_by f.body) (f.kind == NOTICE_RESPONSE) (f.kind == AUTHENTICATION) (f.kind == ERROR_RESPONSE) n (not_refused (let_in_by f.body) (only-open (asked f.body))) e
by_refused cred LetIn f n e = by (is_welcome f.kind) (is_idle f) (f.kind == ERROR_RESPONSE) e
  where
    by : (a b c : Bool) → (if a then LetIn else (if b then Ready else (if c then Refused else Other))) ≡ Refused → c ≡ true
    by true b c h = absurd cc
    by false true c h = absurd cc
    by false false c h = is_refused c h
by_refused cred Ready f n e = absurd cc
by_refused cred Refused f n e = absurd (n refl)
by_refused cred Other f n e = absurd cc

pub ready_came : (cred : CredentialOf) (h : StartProgress) (fs : List FrameOf) → h ≢ Ready → heard_all cred h fs ≡ Ready → has_ready fs ≡ true
ready_came cred h [] n e = absurd (n e)
ready_came cred h (f ∷ fs) n e = by (λ k. ready_came cred (heard_by cred h f) fs (λ r. true≢false (sym (by_ready cred h f n r) ∙ k)) e) (f.kind == READY_FOR_QUERY) refl
  where
    by : ((f.kind == READY_FOR_QUERY) ≡ false → has_ready fs ≡ true) → (b : Bool) → (f.kind == READY_FOR_QUERY) ≡ b → (b || has_ready fs) ≡ true
    by go true k = refl
    by go false k = go k

pub first_error : (cred : CredentialOf) (h : StartProgress) (got more : List FrameOf) → h ≢ Refused → heard_all cred h got ≡ Refused → error_in (got ++ more) ≡ error_in got
first_error cred h [] more n e = absurd (n e)
first_error cred h (f ∷ fs) more n e = by (λ k. first_error cred (heard_by cred h f) fs more (λ r. true≢false (sym (by_refused cred h f n r) ∙ k)) e) (f.kind == ERROR_RESPONSE) refl
  where
    by : ((f.kind == ERROR_RESPONSE) ≡ false → error_in (fs ++ more) ≡ error_in fs) → (b : Bool) → (f.kind == ERROR_RESPONSE) ≡ b → (if b then spelling f else error_in (fs ++ more)) ≡ (if b then spelling f else error_in fs)
    by go true k = refl
    by go false k = go k

pub is_error : (cred : CredentialOf) (h : StartProgress) (got : List FrameOf) → h ≢ Refused → heard_all cred h got ≡ Refused → IsError (error_in got)
is_error cred h [] n e = absurd (n e)
is_error cred h (f ∷ fs) n e = by (λ k. is_error cred (heard_by cred h f) fs (λ r. true≢false (sym (by_refused cred h f n r) ∙ k)) e) (f.kind == ERROR_RESPONSE) refl
  where
    by : ((f.kind == ERROR_RESPONSE) ≡ false → IsError (error_in fs)) → (b : Bool) → (f.kind == ERROR_RESPONSE) ≡ b → IsError (if b then spelling f else error_in fs)
    by go true k = record { frame = f; kind = eqb-true f.kind ERROR_RESPONSE k; whole = refl }
    by go false k = go k
