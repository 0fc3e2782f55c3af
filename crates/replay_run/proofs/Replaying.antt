-- What a login gives, step by step.
use Rattle.std.proofs.Common.{◌≡◌, ◌⊎◌, inl, inr, ◌<◌, ℕ, suc, Result, Ok, Err, List, [], ◌∷◌, ◌++◌, true, false, refl, sym, ap, arith, ◌∙◌, append_assoc, append-nil, length, subst}
use Rattle.std.specs.List.{flat_map}
use Rattle.std.proofs.lemmas.Grind.{flat_map-append}
use Rattle.frame_view.specs.Frames.{spelling}
use Rattle.message_view.specs.declared.KeyWord.{KeyWord}
use Rattle.message_view.specs.Refusals.{joined_pieces, refusal}
use Rattle.message_view.specs.declared.refusal.Refusal.{Refusal}
use Rattle.message_view.specs.declared.refusal.Refusal.TheVariants as refused
use Rattle.std.proofs.lemmas.Bool.{eqb-true}
use Rattle.std.specs.Prelude.{◌==◌, ◌≢◌, OnOk, Option, Some, None}
use Rattle.std.specs.Io.KnownBytes.{Appends}
use Rattle.session_values.specs.State.{CatalogueOf, StartKeyOf, fresh}
use Rattle.login_core.specs.Talk.{Cut, End, on_cut, says, talk}
use Rattle.login_core.specs.Talk.Cut.{Whole, Need, Bad}
use Rattle.login_core.specs.declared.steps.LoginStep.{LoginStep}
use Rattle.login_core.specs.declared.steps.LoginStep.TheVariants as step
use Rattle.login_core.specs.Laws.{LoginIsOfItsRow}
use Rattle.login_core.specs.Talk.End.{Unfinished, Passed, Stopped}
use Rattle.login_core.specs.Dialogue.{Rows, Dialogue, Way, ToConsole, ToLink, Packet, Reason, Refused, Failed, Left, Cancelling, Stage, AtFirst, Asked, ForPassword, ForFirst, ForLast, dialogue_from, login, login_among, packet, packets_left, react}
use Rattle.login_core.specs.Logins.{LoginView, Awaiting, AwaitsPacket, Arriving, Over, after, goes_on, goes_from, login_view, missing, missing_of, question_bytes, rows_of}
use Rattle.login_core.specs.Solo.{after_login, service_pieces}
use Rattle.login_laws.specs.Laws.{AreLawfulRows, PassedKeysAreLinkKeys, SettingsRowsAreLawful}
use Rattle.frame_view.specs.declared.frames.TheConstants.{MAX_FRAME}
use Rattle.memory_lease.specs.Answers.{IsAllowed, IsAnswer, IsGiven}
use Rattle.session_values.specs.Service.{client_frames, served, service}
use Rattle.memory_lease.proofs.Causes.{was_allowed}
use Rattle.session_run_laws.proofs.Pieces.{pieces_join}
use Rattle.replay_run.specs.Replay.{Follows, AnswersLogin, IsReply, WritesReply, standing_catalogue, standing_row, standing_rows, standing_settings, standing_users, standing_word}
use Rattle.replay_run.specs.Told.{Adds, HasLinkKey, IsKeyed, IsPastArrival, Says, WantsMemory, silence, is_end}

-- ---- nothing comes

some_left : (s : Stage) → (n : ℕ) × (packets_left s ≡ suc n)
some_left (AtFirst false false) = (4, refl)
some_left (AtFirst true false) = (3, refl)
some_left (AtFirst false true) = (3, refl)
some_left (AtFirst true true) = (2, refl)
some_left (Asked ForPassword key) = (0, refl)
some_left (Asked ForFirst key) = (1, refl)
some_left (Asked (ForLast first) key) = (0, refl)

cut_silent : (rows : Rows) (word : KeyWord) (s : Stage) (n : ℕ) (c : Cut Packet Reason) → 0 < missing_of c → on_cut (react rows word s) (talk packet (react rows word) n) c ≡ silence
cut_silent rows word s n (Whole p rest) k = absurd (omega (arith, k))
cut_silent rows word s n (Need m) k = refl
cut_silent rows word s n (Bad r) k = absurd (omega (arith, k))

stage_silent : (rows : Rows) (word : KeyWord) (s : Stage) (held : List ℕ) → 0 < missing_of (packet s held) → dialogue_from rows word s (held ++ []) ≡ silence
stage_silent rows word s held k =
    let n = some_left s in
    ap (dialogue_from rows word s) (append-nil held)
    ∙ (ap (λ (m : ℕ). talk packet (react rows word) m s held) n.1
    ∙ cut_silent rows word s n.0 (packet s held) k)

from_silent : (rows : Rows) (word : KeyWord) (h : Awaiting) (held : List ℕ) → 0 < missing h held → goes_from rows word h held [] ≡ silence
from_silent rows word (AwaitsPacket s) held k = stage_silent rows word s held k
from_silent rows word (Arriving key) held k = absurd (omega (arith, k))
from_silent rows word Over held k = absurd (omega (arith, k))

-- what is said to no bytes, where some are missing, gives nothing
pub silent : (v : LoginView) → 0 < missing v.awaiting v.held → goes_on v [] ≡ silence
silent v k = from_silent (rows_of v) v.word v.awaiting v.held k

pub on_ok : {E : Type 0} {P Q : Type 0} (r : Result (Unit {0}) E) → (P → Q) → OnOk r P → OnOk r Q
on_ok (Ok u) f p = f p
on_ok (Err e) f p = tt

-- ---- a step, and what follows it

pub joined_both : (ps qs : List (List ℕ)) → joined_pieces (ps ++ qs) ≡ joined_pieces ps ++ joined_pieces qs
joined_both ps qs = flat_map-append (λ (p : List ℕ). p) ps qs

step_last : (s : LoginStep) (rest : List ℕ) (d : Dialogue) → is_end s ≡ true → after s rest silence ≡ after s rest d
step_last step.More rest d e = absurd cc
step_last (step.Ask q) rest d e = absurd cc
step_last (step.Arrived k) rest d e = absurd cc
step_last (step.Passed k told) rest d e = refl
step_last (step.Console told) rest d e = refl
step_last (step.Refused r) rest d e = refl
step_last (step.Failed f) rest d e = refl
step_last (step.Cancel pid secret) rest d e = refl
step_last step.Left rest d e = refl

-- pieces that a step says, and then what is said from there on
says_on : (dies : Option ℕ) (cat : CatalogueOf) (ps : List (List ℕ)) (d : Dialogue) (old mid new : List ℕ) → Adds dies cat (says ps silence) old mid → Adds dies cat d mid new → Adds dies cat (says ps d) old new
says_on dies cat ps d old mid new x y =
    let first : x.given ≡ joined_pieces ps = x.answered.out_is ∙ (ap (λ (m : List ℕ). joined_pieces (ps ++ []) ++ m) x.answered.follows ∙ (append-nil (joined_pieces (ps ++ [])) ∙ ap joined_pieces (append-nil ps))) in
    record {
      given = joined_pieces ps ++ y.given;
      answered = record {
        more = y.answered.more;
        follows = y.answered.follows;
        out_is = ap (λ (l : List ℕ). joined_pieces ps ++ l) y.answered.out_is
            ∙ (sym (append_assoc (joined_pieces ps) (joined_pieces d.pieces) y.answered.more) ∙ ap (λ (l : List ℕ). l ++ y.answered.more) (sym (joined_both ps d.pieces)));
      };
      both = y.both ∙ (ap (λ (l : List ℕ). l ++ y.given) (x.both ∙ ap (λ (l : List ℕ). old ++ l) first) ∙ append_assoc old (joined_pieces ps) y.given);
    }

step_on : (dies : Option ℕ) (cat : CatalogueOf) (s : LoginStep) (rest : List ℕ) (d : Dialogue) (old mid new : List ℕ) → is_end s ≡ false → Adds dies cat (after s rest silence) old mid → Adds dies cat d mid new → Adds dies cat (after s rest d) old new
step_on dies cat step.More rest d old mid new e x y = says_on dies cat [] d old mid new x y
step_on dies cat (step.Arrived k) rest d old mid new e x y = says_on dies cat [] d old mid new x y
step_on dies cat (step.Ask q) rest d old mid new e x y = says_on dies cat (question_bytes q ∷ []) d old mid new x y
step_on dies cat (step.Passed k told) rest d old mid new e x y = absurd cc
step_on dies cat (step.Console told) rest d old mid new e x y = absurd cc
step_on dies cat (step.Refused r) rest d old mid new e x y = absurd cc
step_on dies cat (step.Failed f) rest d old mid new e x y = absurd cc
step_on dies cat (step.Cancel pid secret) rest d old mid new e x y = absurd cc
step_on dies cat step.Left rest d old mid new e x y = absurd cc

-- what is said, unless memory was wanted
said_by : (old new : LoginView) (bytes rest : List ℕ) (s : LoginStep) → Says old bytes s new rest → (WantsMemory s → ⊥) → goes_on old bytes ≡ after s rest (goes_on new rest)
said_by old new bytes rest s (inl w) n = absurd (n w)
said_by old new bytes rest s (inr e) n = e

pub given_last : (dies : Option ℕ) (cat : CatalogueOf) (old new : LoginView) (bytes rest before after_it : List ℕ) (s : LoginStep) → Says old bytes s new rest → (WantsMemory s → ⊥) → is_end s ≡ true → Adds dies cat (after s rest silence) before after_it → Adds dies cat (goes_on old bytes) before after_it
given_last dies cat old new bytes rest before after_it s h n e x =
    subst (λ (d : Dialogue). Adds dies cat d before after_it) (sym (said_by old new bytes rest s h n)) (subst (λ (d : Dialogue). Adds dies cat d before after_it) (step_last s rest (goes_on new rest) e) x)

pub given_on : (dies : Option ℕ) (cat : CatalogueOf) (old new : LoginView) (bytes rest before mid after_it : List ℕ) (s : LoginStep) → Says old bytes s new rest → (WantsMemory s → ⊥) → is_end s ≡ false → Adds dies cat (after s rest silence) before mid → Adds dies cat (goes_on new rest) mid after_it
    → Adds dies cat (goes_on old bytes) before after_it
given_on dies cat old new bytes rest before mid after_it s h n e x y =
    subst (λ (d : Dialogue). Adds dies cat d before after_it) (sym (said_by old new bytes rest s h n)) (step_on dies cat s rest (goes_on new rest) before mid after_it e x y)

-- bytes are missing where the login isn't over
pub missing_on : (s : LoginStep) (v : LoginView) → IsPastArrival s v → is_end s ≡ false → 0 < missing v.awaiting v.held
missing_on step.More v p e = p
missing_on (step.Ask q) v p e = p
missing_on (step.Arrived k) v p e = absurd p
missing_on (step.Passed k told) v p e = absurd cc
missing_on (step.Console told) v p e = absurd cc
missing_on (step.Refused r) v p e = absurd cc
missing_on (step.Failed f) v p e = absurd cc
missing_on (step.Cancel pid secret) v p e = absurd cc
missing_on step.Left v p e = absurd cc

-- ---- a refusal

refusals_same : (a b : Refusal) → step.Refused a ≡ step.Refused b → a ≡ b
refusals_same a b e = cc

pub refusal_given : {E : Type 0} (dies : Option ℕ) (cat : CatalogueOf) (s : LoginStep) (r : Refusal) (rest old new : List ℕ) (result : Result (Unit {0}) E) → s ≡ step.Refused r → OnOk result (new ≡ old ++ refusal r) → OnOk result (Adds dies cat (after s rest silence) old new)
refusal_given dies cat s r rest old new (Err e) i g = tt
refusal_given dies cat s r rest old new (Ok u) i g =
    subst (λ (x : LoginStep). Adds dies cat (after x rest silence) old new) (sym i) (record { given = refusal r; answered = record { more = refusal r; follows = refl; out_is = refl }; both = g })

pub refusal_wants : {E : Type 0} (s : LoginStep) (r : Refusal) (result : Result (Unit {0}) E) → s ≡ step.Refused r → OnOk result (r ≢ refused.OutOfMemory) → OnOk result (WantsMemory s → ⊥)
refusal_wants s r (Err e) i n = tt
refusal_wants s r (Ok u) i n = λ w. n (refusals_same r refused.OutOfMemory (sym i ∙ w))

-- ---- keys

step_key : (s : LoginStep) (rest : List ℕ) (d : Dialogue) → IsKeyed (after s rest d).ended → HasLinkKey s
step_key step.More rest d k = tt
step_key (step.Ask q) rest d k = tt
step_key (step.Arrived key) rest d k = tt
step_key (step.Passed key told) rest d k = k
step_key (step.Console told) rest d k = tt
step_key (step.Refused r) rest d k = tt
step_key (step.Failed f) rest d k = tt
step_key (step.Cancel pid secret) rest d k = tt
step_key step.Left rest d k = tt

-- out of memory gives no key
wanting : (s : LoginStep) → WantsMemory s → HasLinkKey s
wanting s w = subst HasLinkKey (sym w) tt

pub key_of_step : (old new : LoginView) (bytes rest : List ℕ) (s : LoginStep) → Says old bytes s new rest → IsKeyed (goes_on old bytes).ended → HasLinkKey s
key_of_step old new bytes rest s (inl w) k = wanting s w
key_of_step old new bytes rest s (inr e) k = step_key s rest (goes_on new rest) (subst (λ (d : Dialogue). IsKeyed d.ended) e k)

keyed_rest : (s : LoginStep) (rest : List ℕ) (d : Dialogue) → is_end s ≡ false → IsKeyed (after s rest d).ended → IsKeyed d.ended
keyed_rest step.More rest d e k = k
keyed_rest (step.Ask q) rest d e k = k
keyed_rest (step.Arrived key) rest d e k = k
keyed_rest (step.Passed key told) rest d e k = absurd cc
keyed_rest (step.Console told) rest d e k = absurd cc
keyed_rest (step.Refused r) rest d e k = absurd cc
keyed_rest (step.Failed f) rest d e k = absurd cc
keyed_rest (step.Cancel pid secret) rest d e k = absurd cc
keyed_rest step.Left rest d e k = absurd cc

pub keyed_on : (old new : LoginView) (bytes rest : List ℕ) (s : LoginStep) → Says old bytes s new rest → (WantsMemory s → ⊥) → is_end s ≡ false → IsKeyed (goes_on old bytes).ended → IsKeyed (goes_on new rest).ended
keyed_on old new bytes rest s h n e k = keyed_rest s rest (goes_on new rest) e (subst (λ (d : Dialogue). IsKeyed d.ended) (said_by old new bytes rest s h n) k)

-- the rows of the standing settings are lawful
standing_lawful : SettingsRowsAreLawful → AreLawfulRows standing_rows
unfolding standing_settings
standing_lawful law = law standing_settings standing_users (record { dbname = (omega arith, (omega arith, (omega arith, (omega arith, (omega arith, tt))))); user = tt }, tt)

keyed_by : (rows : Rows) (word : KeyWord) (bytes : List ℕ) (e : End Way Reason) → PassedKeysAreLinkKeys → AreLawfulRows rows → (login_among rows word bytes).ended ≡ e → IsKeyed e
keyed_by rows word bytes Unfinished law l h = tt
keyed_by rows word bytes (Passed (ToLink key) left) law l h = ((law rows word bytes left key l h).client, (law rows word bytes left key l h).dbname)
keyed_by rows word bytes (Passed ToConsole left) law l h = tt
keyed_by rows word bytes (Stopped reason) law l h = tt

pub standing_keyed : SettingsRowsAreLawful → PassedKeysAreLinkKeys → (v : LoginView) (bytes : List ℕ) → v ≡ login_view standing_settings standing_users standing_word (AwaitsPacket (AtFirst false false)) [] → IsKeyed (goes_on v bytes).ended
standing_keyed rows law v bytes e =
    subst (λ (x : LoginView). IsKeyed (goes_on x bytes).ended) (sym e) (keyed_by standing_rows standing_word bytes _ law (standing_lawful rows) refl)

-- the greatest length of a frame in the standing settings
pub standing_limit : standing_settings.max_packet_size ≡ 2147483647
unfolding standing_settings
standing_limit = refl

-- ---- a login that has passed

pub passed_given : (dies : Option ℕ) (cat : CatalogueOf) (key : StartKeyOf) (told rest old greeted new answer : List ℕ) → greeted ≡ old ++ told → IsAnswer dies MAX_FRAME rest answer (service_pieces cat key standing_word [] rest) → new ≡ greeted ++ answer
    → Adds dies cat (record { pieces = told ∷ []; ended = Passed (ToLink key) rest }) old new
passed_given dies cat key told rest old greeted new answer g a n = record {
  given = told ++ answer;
  answered = record { more = answer; follows = a; out_is = ap (λ (o : List ℕ). o ++ answer) (sym (append-nil told)) };
  both = n ∙ (ap (λ (o : List ℕ). o ++ answer) g ∙ append_assoc old told answer);
}

-- ---- the whole answer

prefixed_given : (dies : Option ℕ) (ps qs : List (List ℕ)) (more out : List ℕ) → out ≡ joined_pieces ps ++ more → IsGiven dies more qs → IsGiven dies out (ps ++ qs)
prefixed_given (Some n) ps qs more out e b = record {
  more = b.more;
  both = ap (λ (o : List ℕ). o ++ b.more) e ∙ (append_assoc (joined_pieces ps) more b.more ∙ (ap (λ (l : List ℕ). joined_pieces ps ++ l) b.both ∙ sym (joined_both ps qs)));
}
prefixed_given None ps qs more out e b = e ∙ (ap (λ (l : List ℕ). joined_pieces ps ++ l) b ∙ sym (joined_both ps qs))

prefixed : (dies : Option ℕ) (ps qs : List (List ℕ)) (more out : List ℕ) → out ≡ joined_pieces ps ++ more → IsAllowed dies more qs → IsAllowed dies out (ps ++ qs)
prefixed dies ps qs more out e (inl b) = inl (prefixed_given dies ps qs more out e b)
prefixed dies ps qs more out e (inr r) = inr (record {
  given = ps ++ r.given;
  kept = r.kept;
  pieces_are = append_assoc ps r.given r.kept ∙ ap (λ (l : List (List ℕ)). ps ++ l) r.pieces_are;
  cause = r.cause;
  out_is = e ∙ (ap (λ (l : List ℕ). joined_pieces ps ++ l) r.out_is ∙ (sym (append_assoc (joined_pieces ps) (joined_pieces r.given) (refusal r.cause)) ∙ ap (λ (l : List ℕ). l ++ refusal r.cause) (sym (joined_both ps r.given))));
})

none_given : (dies : Option ℕ) (more : List ℕ) → more ≡ [] → IsGiven dies more []
none_given (Some n) more e = record { more = []; both = append-nil more ∙ e }
none_given None more e = e

none_allowed : (dies : Option ℕ) (more : List ℕ) → more ≡ [] → IsAllowed dies more []
none_allowed dies more e = inl (none_given dies more e)

follows_allowed : (dies : Option ℕ) (cat : CatalogueOf) (e : End Way Reason) (more : List ℕ) → Follows dies cat e more → IsAllowed dies more (after_login cat standing_word [] e)
follows_allowed dies cat Unfinished more f = none_allowed dies more f
follows_allowed dies cat (Passed (ToLink key) left) more f = was_allowed dies MAX_FRAME left more (service_pieces cat key standing_word [] left) f
follows_allowed dies cat (Passed ToConsole left) more f = none_allowed dies more f
follows_allowed dies cat (Stopped (Refused cause)) more f = inr (record { given = []; kept = []; pieces_are = refl; cause = cause; out_is = f })
follows_allowed dies cat (Stopped Failed) more f = none_allowed dies more f
follows_allowed dies cat (Stopped Left) more f = none_allowed dies more f
follows_allowed dies cat (Stopped (Cancelling key)) more f = none_allowed dies more f

reply_of : (dies : Option ℕ) (bytes out : List ℕ) → AnswersLogin dies standing_catalogue (login (standing_row bytes) standing_word bytes) out → IsReply dies bytes out
reply_of dies bytes out x = record {
  login = x;
  allowed = prefixed dies (login (standing_row bytes) standing_word bytes).pieces _ x.more out x.out_is (follows_allowed dies standing_catalogue (login (standing_row bytes) standing_word bytes).ended x.more x.follows);
}

no_bytes : (bytes : List ℕ) → length bytes ≡ 0 → bytes ≡ []
no_bytes [] e = refl
no_bytes (b ∷ bytes) e = absurd (omega (arith, e))

pub nothing_given : (dies : Option ℕ) (cat : CatalogueOf) (v : LoginView) (bytes out : List ℕ) → 0 < missing v.awaiting v.held → true ≡ (length bytes == 0) → Adds dies cat (goes_on v bytes) out out
nothing_given dies cat v bytes out k e =
    let silent_then : goes_on v bytes ≡ silence = ap (goes_on v) (no_bytes bytes (eqb-true (length bytes) 0 (sym e))) ∙ silent v k in
    record {
      given = [];
      answered = subst (λ (d : Dialogue). AnswersLogin dies cat d []) (sym silent_then) (record { more = []; follows = refl; out_is = refl });
      both = sym (append-nil out);
    }

pub all_given : LoginIsOfItsRow → (dies : Option ℕ) (cat : CatalogueOf) (v : LoginView) (bytes start out : List ℕ) → start ≡ [] → cat ≡ standing_catalogue → v ≡ login_view standing_settings standing_users standing_word (AwaitsPacket (AtFirst false false)) [] →
    Adds dies cat (goes_on v bytes) start out → IsReply dies bytes out
all_given law dies cat v bytes start out n c l x =
    let given : out ≡ x.given = x.both ∙ ap (λ (s : List ℕ). s ++ x.given) n in
    let of_row : goes_on v bytes ≡ login (standing_row bytes) standing_word bytes = ap (λ (w : LoginView). goes_on w bytes) l ∙ law standing_rows standing_word bytes in
    reply_of dies bytes out (subst (λ (d : Dialogue). AnswersLogin dies standing_catalogue d out) of_row (subst (λ (k : CatalogueOf). AnswersLogin dies k (goes_on v bytes) out) c (subst (AnswersLogin dies cat (goes_on v bytes)) (sym given) x.answered)))

-- an answer that was added to the output
pub writes_reply : (before after_it : Option (List ℕ)) (bytes out : List ℕ) → IsReply None bytes out → Appends before after_it out → WritesReply before after_it bytes
writes_reply before after_it bytes out r a = record { out = out; reply = r; adds = a }

-- ---- a session alone

given_whole : (dies : Option ℕ) (out : List ℕ) (pieces : List (List ℕ)) → out ≡ joined_pieces pieces → IsGiven dies out pieces
given_whole None out pieces e = e
given_whole (Some n) out pieces e = record { more = []; both = append-nil out ∙ e }

pub by_session : (dies : Option ℕ) (limit : ℕ) (cat used : CatalogueOf) (key : StartKeyOf) (word : KeyWord) (bytes before out : List ℕ) → used ≡ cat → before ≡ [] → out ≡ before ++ service used key word.pid word.secret [] bytes → IsAnswer dies limit bytes out (service_pieces cat key word [] bytes)
unfolding service
by_session dies limit cat used key word bytes before out u b e =
    let whole : out ≡ flat_map spelling (served cat (fresh cat key) word.pid word.secret [] (client_frames bytes)) =
    e ∙ (ap (λ (l : List ℕ). l ++ flat_map spelling (served used (fresh used key) word.pid word.secret [] (client_frames bytes))) b
    ∙ ap (λ (c : CatalogueOf). flat_map spelling (served c (fresh c key) word.pid word.secret [] (client_frames bytes))) u) in
    inl (given_whole dies out _ (whole ∙ sym (pieces_join (served cat (fresh cat key) word.pid word.secret [] (client_frames bytes)))))
