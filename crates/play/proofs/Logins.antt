-- A client's login, step by step.
use Rattle.std.proofs.Common.{◌≡◌, ℕ, List, [], ◌∷◌, ◌++◌, refl, sym, ap, ap₂, ◌∙◌, append_assoc, append-nil, subst, drop, take-append-drop, arith, ◌<◌}
use Rattle.std.proofs.lemmas.Grind.{flat_map-append}
use Rattle.std.specs.Arc.{arc_value}
use Rattle.message_view.specs.declared.KeyWord.{KeyWord}
use Rattle.message_view.specs.Refusals.{joined_pieces}
use Rattle.login_core.specs.declared.steps.Authenticated.{Authenticated}
use Rattle.session_values.specs.State.{StartKeyOf}
use Rattle.login_core.specs.declared.steps.LoginStep.{LoginStep}
use Rattle.login_core.specs.declared.steps.LoginStep.TheVariants as step
use Rattle.login_core.specs.declared.steps.Question.{Question}
use Rattle.login_core.specs.declared.steps.LoginRefusal.{LoginRefusal}
use Rattle.login_core.specs.Talk.{says}
use Rattle.login_core.specs.Talk.End.{Passed}
use Rattle.login_core.specs.Dialogue.{Dialogue, Rows, AtFirst, ToLink, if_any, login_among, row_in}
use Rattle.login_core.specs.Laws.{GoesOn, given_by}
use Rattle.login_core.specs.Laws.GoesOn.{waits, arrived, asks}
use Rattle.login_core.specs.Logins.{StepMeans, AwaitsPacket, LoginView, Tells, after, authenticated_bytes, failure_bytes, goes_on, login_view, missing, question_bytes, rows_of as login_rows}
use Rattle.login_core.proofs.Pieces.{joined_if_any}
use Rattle.login_core.proofs.Telling.{new_tells, steps_say, steps_tell}
use Rattle.ini_config.specs.Bounds.{AreWithinBounds}
use Rattle.link_start.specs.Starts.{IsLinkKey as IsStartKey}
use Rattle.login_laws.specs.Laws.{BoundedRowsAreLawful, PassedKeysAreLinkKeys}
use Rattle.act_client.specs.Clients.{ActClientOf, given_more, new_client, taken}
use Rattle.memory_pool.specs.MemoryPools.{MemoryPoolOf}
use Rattle.play.specs.Players.{HasPassed, IsAtPiece, IsLetIn, LogsIn, Steps, Waits, rows_of}
use Rattle.play.proofs.Pieces.{joined_one, login_piece}

-- what was taken begins the input
pub input_is : (c : ActClientOf) → taken c ++ drop c.at c.input ≡ c.input
input_is c = take-append-drop c.at c.input

same_rows : (h : MemoryPoolOf) (l : LoginView) → l.settings ≡ h.settings → l.users ≡ h.users → login_rows l ≡ rows_of h
same_rows h l s u = ap₂ row_in s u

-- ---- at a piece

-- first pieces of the login of more bytes
told_piece : (h : MemoryPoolOf) (word : KeyWord) (c : ActClientOf) (l : LoginView) (before more : List ℕ) (pieces : List (List ℕ)) → l.settings ≡ h.settings → l.users ≡ h.users → l.word ≡ word → Tells l before pieces → before ++ more ≡ c.input
    → c.given ≡ joined_pieces pieces → IsAtPiece h word c
told_piece h word c l before more pieces s u w t i g =
    login_piece h word c (says pieces (goes_on l more)) pieces (goes_on l more).pieces
    (ap (login_among (rows_of h) word) (sym i) ∙ (sym (ap₂ (λ (r : Rows) (k : KeyWord). login_among r k (before ++ more)) (same_rows h l s u) w) ∙ t more)) refl g

pub logs_in_piece : (h : MemoryPoolOf) (word : KeyWord) (c : ActClientOf) (l : LoginView) → LogsIn h word c l → IsAtPiece h word c
logs_in_piece h word c l x = told_piece h word c l (taken c) (drop c.at c.input) x.pieces x.settings x.users x.word_is x.tells (input_is c) x.given

pub steps_piece : (h : MemoryPoolOf) (word : KeyWord) (c : ActClientOf) (s : LoginStep) (l : LoginView) → Steps h word c s l → IsAtPiece h word c
steps_piece h word c s l x =
    told_piece h word c x.old x.before (x.bytes ++ drop c.at c.input) x.pieces x.settings x.users x.word_is x.tells
    (sym (append_assoc x.before x.bytes (drop c.at c.input)) ∙ (ap (λ (b : List ℕ). b ++ drop c.at c.input) (sym x.taken_is) ∙ input_is c)) x.given

passed_at : (h : MemoryPoolOf) (word : KeyWord) (c : ActClientOf) (key : StartKeyOf) (pieces : List (List ℕ)) → HasPassed (rows_of h) word (taken c) key pieces → login_among (rows_of h) word c.input ≡ record { pieces = pieces; ended = Passed (ToLink key) (drop c.at c.input) }
passed_at h word c key pieces p = ap (login_among (rows_of h) word) (sym (input_is c)) ∙ p (drop c.at c.input)

pub waits_piece : (h : MemoryPoolOf) (word : KeyWord) (c : ActClientOf) (key : StartKeyOf) → Waits h word c key → IsAtPiece h word c
waits_piece h word c key x = login_piece h word c _ x.pieces [] (passed_at h word c key x.pieces x.passed) (append-nil x.pieces) x.given

-- ---- the steps

-- the first
pub new_logs_in : (h : MemoryPoolOf) (word : KeyWord) (input : List ℕ) → LogsIn h word (new_client input) (login_view h.settings h.users word (AwaitsPacket (AtFirst Rattle.std.specs.Prelude.false Rattle.std.specs.Prelude.false)) [])
new_logs_in h word input = record {
  settings = refl;
  users = refl;
  word_is = refl;
  pieces = [];
  tells = new_tells h.settings h.users word;
  given = refl;
}

pub first_at : (h : MemoryPoolOf) (word : KeyWord) (input : List ℕ) (c : ActClientOf) (l : LoginView) → c ≡ new_client input → l ≡ login_view h.settings h.users word (AwaitsPacket (AtFirst Rattle.std.specs.Prelude.false Rattle.std.specs.Prelude.false)) [] → (c.input ≡ input) × LogsIn h word c l × (0 < missing l.awaiting l.held)
first_at h word input c l e k =
    subst (λ (d : ActClientOf). (d.input ≡ input) × LogsIn h word d l × (0 < missing l.awaiting l.held)) (sym e)
    (subst (λ (m : LoginView). (input ≡ input) × LogsIn h word (new_client input) m × (0 < missing m.awaiting m.held)) (sym k) (refl, new_logs_in h word input, omega arith))

-- bytes were taken, and heard
pub takes : (h : MemoryPoolOf) (word : KeyWord) (c d : ActClientOf) (s : LoginStep) (old new : LoginView) (bytes : List ℕ) → LogsIn h word c old → taken d ≡ taken c ++ bytes → d.given ≡ c.given → StepMeans old bytes s new → Steps h word d s new
takes h word c d s old new bytes x t g k = record {
  old = old;
  settings = x.settings;
  users = x.users;
  word_is = x.word_is;
  before = taken c;
  bytes = bytes;
  taken_is = t;
  pieces = x.pieces;
  tells = x.tells;
  heard = k;
  given = g ∙ x.given;
}

-- the login goes on, with what it said
goes : (h : MemoryPoolOf) (word : KeyWord) (c : ActClientOf) (s : LoginStep) (l : LoginView) (d : ActClientOf) → GoesOn s → (x : Steps h word c s l) → taken d ≡ taken c → d.given ≡ joined_pieces (x.pieces ++ given_by s) → LogsIn h word d l
goes h word c s l d g x t e = record {
  settings = x.heard.settings ∙ x.settings;
  users = x.heard.users ∙ x.users;
  word_is = x.heard.word ∙ x.word_is;
  pieces = x.pieces ++ given_by s;
  tells = subst (λ (b : List ℕ). Tells l b (x.pieces ++ given_by s)) (sym (t ∙ x.taken_is)) (steps_tell x.old l x.before x.bytes x.pieces s g x.tells x.heard);
  given = e;
}

pub goes_more : (h : MemoryPoolOf) (word : KeyWord) (c : ActClientOf) (l : LoginView) → Steps h word c step.More l → LogsIn h word c l
goes_more h word c l x = goes h word c step.More l c waits x refl (x.given ∙ ap joined_pieces (sym (append-nil x.pieces)))

pub goes_arrived : (h : MemoryPoolOf) (word : KeyWord) (c : ActClientOf) (key : _) (l : LoginView) → Steps h word c (step.Arrived key) l → LogsIn h word c l
goes_arrived h word c key l x = goes h word c (step.Arrived key) l c (arrived key) x refl (x.given ∙ ap joined_pieces (sym (append-nil x.pieces)))

pub goes_asked : (h : MemoryPoolOf) (word : KeyWord) (c : ActClientOf) (q : Question) (l : LoginView) → Steps h word c (step.Ask q) l → LogsIn h word (given_more c (question_bytes q)) l
goes_asked h word c q l x = goes h word c (step.Ask q) l (given_more c (question_bytes q)) (asks q) x refl (ap (λ (b : List ℕ). b ++ question_bytes q) x.given ∙ joined_one x.pieces (question_bytes q))

-- all that the login says, at its end
said : (h : MemoryPoolOf) (word : KeyWord) (c : ActClientOf) (s : LoginStep) (l : LoginView) (x : Steps h word c s l) → ((more : List ℕ) → login_among (login_rows x.old) x.old.word ((x.before ++ x.bytes) ++ more) ≡ says x.pieces (after s more (goes_on l more)))
    → (more : List ℕ) → login_among (rows_of h) word (taken c ++ more) ≡ says x.pieces (after s more (goes_on l more))
said h word c s l x f more =
    sym (ap₂ (λ (r : Rows) (k : KeyWord). login_among r k (taken c ++ more)) (same_rows h x.old x.settings x.users) x.word_is)
    ∙ (ap (λ (b : List ℕ). login_among (login_rows x.old) x.old.word (b ++ more)) x.taken_is ∙ f more)

pub passes : (h : MemoryPoolOf) (word : KeyWord) (c : ActClientOf) (key : _) (told : Authenticated) (l : LoginView) → Steps h word c (step.Passed key told) l → IsLetIn h word c (arc_value key) (authenticated_bytes told)
passes h word c key told l x = record {
  pieces = x.pieces;
  passed = said h word c (step.Passed key told) l x (steps_say x.old l x.before x.bytes x.pieces (step.Passed key told) x.tells x.heard);
  given = x.given;
}

pub fails : (h : MemoryPoolOf) (word : KeyWord) (c : ActClientOf) (f : LoginRefusal) (l : LoginView) → Steps h word c (step.Failed f) l → IsAtPiece h word (given_more c (failure_bytes f))
fails h word c f l x =
    login_piece h word (given_more c (failure_bytes f)) _ (x.pieces ++ failure_bytes f ∷ []) []
    (ap (login_among (rows_of h) word) (sym (input_is c)) ∙ said h word c (step.Failed f) l x (steps_say x.old l x.before x.bytes x.pieces (step.Failed f) x.tells x.heard) (drop c.at c.input))
    (append-nil (x.pieces ++ failure_bytes f ∷ [])) (ap (λ (b : List ℕ). b ++ failure_bytes f) x.given ∙ joined_one x.pieces (failure_bytes f))

pub to_console : (h : MemoryPoolOf) (word : KeyWord) (c : ActClientOf) (told : Authenticated) (l : LoginView) → Steps h word c (step.Console told) l → IsAtPiece h word (given_more c (authenticated_bytes told))
to_console h word c told l x =
    login_piece h word (given_more c (authenticated_bytes told)) _ (x.pieces ++ if_any (authenticated_bytes told)) []
    (ap (login_among (rows_of h) word) (sym (input_is c)) ∙ said h word c (step.Console told) l x (steps_say x.old l x.before x.bytes x.pieces (step.Console told) x.tells x.heard) (drop c.at c.input))
    (append-nil (x.pieces ++ if_any (authenticated_bytes told)))
    (ap₂ (λ (a b : List ℕ). a ++ b) x.given (sym (joined_if_any (authenticated_bytes told))) ∙ sym (flat_map-append (λ (p : List ℕ). p) x.pieces (if_any (authenticated_bytes told))))

-- the client was told that it is let in
pub let_in_waits : (h : MemoryPoolOf) (word : KeyWord) (c : ActClientOf) (key : StartKeyOf) (told : List ℕ) → IsLetIn h word c key told → Waits h word (given_more c told) key
let_in_waits h word c key told x = record {
  pieces = x.pieces ++ told ∷ [];
  passed = x.passed;
  given = ap (λ (b : List ℕ). b ++ told) x.given ∙ joined_one x.pieces told;
}

-- its key can start a link
pub key_starts : BoundedRowsAreLawful → PassedKeysAreLinkKeys → (h : MemoryPoolOf) (word : KeyWord) (c : ActClientOf) (key : StartKeyOf) → AreWithinBounds h.settings → Waits h word c key → IsStartKey key
key_starts rows law h word c key b x =
    let k = law (rows_of h) word c.input (drop c.at c.input) key (rows h.settings h.users b) (ap (λ (d : Dialogue). d.ended) (passed_at h word c key x.pieces x.passed)) in
    (k.client, k.dbname)

pub let_in_piece : (h : MemoryPoolOf) (word : KeyWord) (c : ActClientOf) (key : StartKeyOf) (told : List ℕ) → IsLetIn h word c key told → IsAtPiece h word (given_more c told)
let_in_piece h word c key told x = waits_piece h word (given_more c told) key (let_in_waits h word c key told x)

-- a step after which the login waits for more
pub more_at : (h : MemoryPoolOf) (word : KeyWord) (c d : ActClientOf) (l : LoginView) → Steps h word c step.More l → d ≡ c → (d.input ≡ c.input) × LogsIn h word d l × (0 < missing l.awaiting l.held)
more_at h word c d l x e = subst (λ (y : ActClientOf). (y.input ≡ c.input) × LogsIn h word y l × (0 < missing l.awaiting l.held)) (sym e) (refl, goes_more h word c l x, x.heard.leads)

pub asked_at : (h : MemoryPoolOf) (word : KeyWord) (c d : ActClientOf) (q : Question) (l : LoginView) → Steps h word c (step.Ask q) l → d ≡ given_more c (question_bytes q) → (d.input ≡ c.input) × LogsIn h word d l × (0 < missing l.awaiting l.held)
asked_at h word c d q l x e = subst (λ (y : ActClientOf). (y.input ≡ c.input) × LogsIn h word y l × (0 < missing l.awaiting l.held)) (sym e) (refl, goes_asked h word c q l x, x.heard.leads)
