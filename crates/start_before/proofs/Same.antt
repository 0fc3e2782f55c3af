-- Packet by packet a server of one round is the one of one question.
use Rattle.std.proofs.Common.{◌≡◌, ℕ, List, [], ◌∷◌, ◌++◌, Result, Ok, Err, Bool, true, false, refl, sym, ap, ap₂, ◌∙◌, append-nil}
use Rattle.std.specs.Prelude.{◌==◌, ◌&&◌, if◌then◌else◌, bytes_eq}
use Rattle.std.proofs.lemmas.Slice.Eq.{bytes_eq-Decides}
use Rattle.frame_view.specs.declared.client.TheConstants.{PASSWORD_MESSAGE}
use Rattle.frame_view.specs.Frames.{FrameOf}
use Rattle.message_view.specs.declared.ViewError.{ViewError}
use Rattle.message_view.specs.Bodies.{Text, HasNoZero, text}
use Rattle.message_view.specs.Reading.{at_end, password_of, text_at}
use Rattle.message_view.proofs.Pieces.{bind-inv, at_end-inv}
use Rattle.message_laws.proofs.ByteTrips.{text_again}
use Rattle.message_laws.proofs.Trips.{text_spelled}
use Rattle.session_run_laws.specs.declared.cause.Cause.{Cause}
use Rattle.session_run_laws.specs.State.{State}
use Rattle.link_model.specs.Stages as rounds
use Rattle.link_model.specs.Stages.{Server, Packet, Starts, Sends, no_auth, started_by, wrong_password}
use Rattle.start_before.specs.Before.{Auth, NoAuth, Asks, Stage, Before, Asked, Open, Closed, Turn, turns, opened, opens, begins, is_text, is_answer, hears, serve, after, answers, in_rounds, stage_in_rounds, IsSpellable, StartsAreAsBefore}

-- ---- the right answer

same : (x y : Text) → bytes_eq x y ≡ true → x ≡ y
same x y e = (bytes_eq-Decides x y).0 e

alike : (x y : Text) → x ≡ y → bytes_eq x y ≡ true
alike x y e = (bytes_eq-Decides x y).1 e

-- what is true together is the same
together : (a b : Bool) → (a ≡ true → b ≡ true) → (b ≡ true → a ≡ true) → b ≡ a
together true b f g = f refl
together false true f g = sym (g refl)
together false false f g = refl

spells : (body given : Text) → password_of body ≡ Ok given → body ≡ text given
unfolding password_of
spells body given e =
    let part = bind-inv (text_at body) (λ (p : Text × List ℕ). at_end p.0 p.1) given e in
    let last = at_end-inv part.0.0 given part.0.1 part.2 in
    (text_spelled body part.0.0 part.0.1 part.1).0 ∙ ap₂ (λ (t r : List ℕ). text t ++ r) last.0 last.1 ∙ append-nil (text given)

reads : (answer : Text) → HasNoZero answer → password_of (text answer) ≡ Ok answer
unfolding password_of
reads answer h = text_again answer h

told : (answer body : Text) (r : Result Text ViewError) → password_of body ≡ r → is_text answer r ≡ true → bytes_eq body (text answer) ≡ true
told answer body (Ok given) e t = alike body (text answer) (spells body given e ∙ ap text (same given answer t))
told answer body (Err fault) e t = absurd cc

heard : (answer body : Text) → HasNoZero answer → bytes_eq body (text answer) ≡ true → is_text answer (password_of body) ≡ true
heard answer body h e = ap (λ (b : Text). is_text answer (password_of b)) (same body (text answer) e) ∙ (ap (is_text answer) (reads answer h) ∙ alike answer answer refl)

right : (answer body : Text) → HasNoZero answer → bytes_eq body (text answer) ≡ is_text answer (password_of body)
right answer body h = together (is_text answer (password_of body)) (bytes_eq body (text answer)) (told answer body (password_of body) refl) (heard answer body h)

and-if : (a b : Bool) → (a && b) ≡ (if a then b else false)
and-if true b = refl
and-if false b = refl

right_frame : (answer : Text) (f : FrameOf) → HasNoZero answer → rounds.is_answer (text answer) f ≡ is_answer answer f
right_frame answer f h =
    and-if (f.kind == PASSWORD_MESSAGE) (bytes_eq f.body (text answer))
    ∙ ap (λ (b : Bool). if f.kind == PASSWORD_MESSAGE then b else false) (right answer f.body h)

-- ---- a turn

abbrev turn_in_rounds : Turn → rounds.Turn
turn_in_rounds t = rounds.turns (stage_in_rounds t.next) t.replies

opened_same : (v : Server) (r : Result State Cause) → rounds.opened v r ≡ turn_in_rounds (opened v r)
opened_same v (Ok s) = refl
opened_same v (Err c) = refl

-- a server of which nothing is left to ask opens
open_same : (v : Server) (start : List ℕ) → rounds.begins v no_auth start ≡ turn_in_rounds (opens v start)
open_same v start = opened_same v (started_by v.catalogue start)

begins_same : (v : Server) (auth : Auth) (start : List ℕ) → rounds.begins v (in_rounds auth) start ≡ turn_in_rounds (begins v auth start)
begins_same v NoAuth start = open_same v start
begins_same v (Asks kind more answer) start = refl

judged_same : (v : Server) (start : List ℕ) (b : Bool) → (if b then rounds.begins v no_auth start else rounds.turns rounds.Closed (wrong_password ∷ [])) ≡ turn_in_rounds (if b then opens v start else turns Closed (wrong_password ∷ []))
judged_same v start true = open_same v start
judged_same v start false = refl

hears_same : (v : Server) (start answer : Text) (f : FrameOf) → HasNoZero answer → rounds.hears v start (text answer) no_auth f ≡ turn_in_rounds (hears v start answer f)
hears_same v start answer f h =
    ap (λ (b : Bool). if b then rounds.begins v no_auth start else rounds.turns rounds.Closed (wrong_password ∷ [])) (right_frame answer f h)
    ∙ judged_same v start (is_answer answer f)

abbrev IsSpellableAt : Stage → Type 0
IsSpellableAt (Before auth) = IsSpellable auth
IsSpellableAt (Asked start answer) = HasNoZero answer
IsSpellableAt (Open s) = Unit {0}
IsSpellableAt Closed = Unit {0}

serve_same : (v : Server) (s : Stage) (p : Packet) → IsSpellableAt s → rounds.serve v (stage_in_rounds s) p ≡ turn_in_rounds (serve v s p)
serve_same v (Before auth) (Starts start) h = begins_same v auth start
serve_same v (Before auth) (Sends struck f) h = refl
serve_same v (Asked start answer) (Starts _) h = refl
serve_same v (Asked start answer) (Sends struck f) h = hears_same v start answer f h
serve_same v (Open s) (Starts _) h = refl
serve_same v (Open s) (Sends struck f) h = refl
serve_same v Closed p h = refl

opened_spellable : (v : Server) (r : Result State Cause) → IsSpellableAt (opened v r).next
opened_spellable v (Ok s) = tt
opened_spellable v (Err c) = tt

hears_spellable : (v : Server) (start : List ℕ) (b : Bool) → IsSpellableAt (if b then opens v start else turns Closed (wrong_password ∷ [])).next
hears_spellable v start true = opened_spellable v (started_by v.catalogue start)
hears_spellable v start false = tt

begins_spellable : (v : Server) (auth : Auth) (start : List ℕ) → IsSpellable auth → IsSpellableAt (begins v auth start).next
begins_spellable v NoAuth start h = opened_spellable v (started_by v.catalogue start)
begins_spellable v (Asks kind more answer) start h = h

still_spellable : (v : Server) (s : Stage) (p : Packet) → IsSpellableAt s → IsSpellableAt (serve v s p).next
still_spellable v (Before auth) (Starts start) h = begins_spellable v auth start h
still_spellable v (Before auth) (Sends struck f) h = h
still_spellable v (Asked start answer) (Starts _) h = h
still_spellable v (Asked start answer) (Sends struck f) h = hears_spellable v start (is_answer answer f)
still_spellable v (Open s) (Starts _) h = tt
still_spellable v (Open s) (Sends struck f) h = tt
still_spellable v Closed p h = tt

-- ---- many packets

answers_same : (v : Server) (s : Stage) (ps : List Packet) → IsSpellableAt s → rounds.answers v (stage_in_rounds s) ps ≡ answers v s ps
answers_same v s [] h = refl
answers_same v s (p ∷ ps) h =
    ap (λ (t : rounds.Turn). t.replies ++ rounds.answers v t.next ps) (serve_same v s p h)
    ∙ ap (λ (rs : List FrameOf). (serve v s p).replies ++ rs) (answers_same v (serve v s p).next ps (still_spellable v s p h))

after_same : (v : Server) (s : Stage) (ps : List Packet) → IsSpellableAt s → rounds.after v (stage_in_rounds s) ps ≡ stage_in_rounds (after v s ps)
after_same v s [] h = refl
after_same v s (p ∷ ps) h =
    ap (λ (t : rounds.Turn). rounds.after v t.next ps) (serve_same v s p h)
    ∙ after_same v (serve v s p).next ps (still_spellable v s p h)

pub starts_same : StartsAreAsBefore
starts_same v auth ps h = record { replies = answers_same v (Before auth) ps h; next = after_same v (Before auth) ps h }
