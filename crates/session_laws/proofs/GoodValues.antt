-- The values of parameters: none has a zero byte, and each is short enough for the messages that carry it.
use Rattle.session_values.specs.State.{started_over}
use Rattle.std.proofs.Common.{◌≡◌, ℕ, ◌≤◌, List, [], ◌∷◌, length, filter, find, get_or, Option, Some, None, Result, Ok, Err, refl, Bool, true, false, cond, ◌&&◌, arith, leb-true, subst}
use Rattle.std.specs.Prelude.{nat_le, option_map, if◌then◌else◌, nat_lt}
use Rattle.std.specs.List.{AllByRecursion, AllZip, list_all}
use Rattle.message_view.specs.Bodies.{HasNoZero}
use Rattle.mini_sql.specs.Words.{Text, folded}
use Rattle.session_values.specs.declared.parameter.Parameter.{Parameter}
use Rattle.session_values.specs.declared.parameter.Parameter.TheVariants.{ApplicationName, ClientEncoding, DateStyle, IntegerDatetimes, IntervalStyle, ServerEncoding, ServerVersion, StandardConformingStrings, TimeZone, ExtraFloatDigits, SearchPath, StatementTimeout}
use Rattle.session_values.specs.declared.cause.Cause.{Cause}
use Rattle.session_values.specs.declared.cause.Cause.TheVariants.{NoDatabase, FixedParameter}
use Rattle.session_values.specs.Parameters.{Values, reported_parameters, parameters, parameter_named, is_fixed, default, defaults, value_of, with_value, place, kept_for, is_word, is_letter_or_digit, encodings, date_styles, interval_styles, switches, when, is_zone, is_in_zone, is_whole, accepted_of}
use Rattle.session_values.specs.State.{State, CatalogueOf, StartKeyOf, reported_of, kept, new_value, set_value, set_found, set_parameter, bound, set_all, begun, started, fresh, has_text}
use Rattle.session_values.specs.Runs.{reset_from}
use Rattle.session_values.specs.Lawful.{IsShort}
use Rattle.session_laws.proofs.Freshness.{ok-inj}
use Rattle.session_values.proofs.Alls.{OfSome, plain-text, all-as, list_all-each, zip-set, zip-get, zip-take, and-first, and-second}

-- 63 bytes for a reported one, else what a DataRow has room for
abbrev pub longest : Parameter → ℕ
longest ExtraFloatDigits = 2147483637
longest SearchPath = 2147483637
longest StatementTimeout = 2147483637
longest _ = 63

abbrev pub IsSetting : Parameter → Text → Type 0
IsSetting p t = HasNoZero t × length t ≤ longest p

abbrev pub AreSettings : Values → Type 0
AreSettings vs = AllZip IsSetting parameters vs

abbrev pub AreReported : List Text → Type 0
AreReported vs = AllZip IsSetting reported_parameters vs

abbrev pub OfOk : {A : Type 0} → (A → Type 0) → Result A Cause → Type 0
OfOk P (Ok x) = P x
OfOk P (Err c) = Unit {0}

-- ---- look-ups

pub reported-settings : (vs : Values) → AreSettings vs → AreReported (reported_of vs)
reported-settings vs h = zip-take IsSetting 9 parameters vs h

some-short : (p : Parameter) → 0 ≤ longest p
some-short p = omega arith

empty-setting : (p : Parameter) → IsSetting p []
empty-setting p = (tt, some-short p)

-- a parameter stands at its place
at-place : (p : Parameter) (t : Text) → IsSetting (get_or parameters (place p) p) t → IsSetting p t
at-place ApplicationName t h = h
at-place ClientEncoding t h = h
at-place DateStyle t h = h
at-place IntegerDatetimes t h = h
at-place IntervalStyle t h = h
at-place ServerEncoding t h = h
at-place ServerVersion t h = h
at-place StandardConformingStrings t h = h
at-place TimeZone t h = h
at-place ExtraFloatDigits t h = h
at-place SearchPath t h = h
at-place StatementTimeout t h = h

to-place : (p q : Parameter) (t : Text) → IsSetting p t → IsSetting (get_or parameters (place p) q) t
to-place ApplicationName q t h = h
to-place ClientEncoding q t h = h
to-place DateStyle q t h = h
to-place IntegerDatetimes q t h = h
to-place IntervalStyle q t h = h
to-place ServerEncoding q t h = h
to-place ServerVersion q t h = h
to-place StandardConformingStrings q t h = h
to-place TimeZone q t h = h
to-place ExtraFloatDigits q t h = h
to-place SearchPath q t h = h
to-place StatementTimeout q t h = h

pub value-setting : (vs : Values) (p : Parameter) → AreSettings vs → IsSetting p (value_of vs p)
value-setting vs p h = at-place p (value_of vs p) (zip-get IsSetting parameters vs (place p) p [] h (empty-setting p))

with-settings : (vs : Values) (p : Parameter) (t : Text) → AreSettings vs → IsSetting p t → AreSettings (with_value vs p t)
with-settings vs p t h k = zip-set IsSetting parameters vs (place p) t h (λ q. to-place p q t k)

reset-zip : (ps : List Parameter) (vs ds : Values) → AllZip IsSetting ps vs → AllZip IsSetting ps ds → AllZip IsSetting ps (reset_from ps vs ds)
reset-zip [] vs ds h k = tt
reset-zip (p ∷ ps) [] ds h k = absurd h
reset-zip (p ∷ ps) (v ∷ vs) [] h k = absurd k
reset-zip (p ∷ ps) (v ∷ vs) (d ∷ ds) h k = (by_test (is_fixed p), reset-zip ps vs ds h.1 k.1)
  where
    by_test : (b : Bool) → IsSetting p (if b then v else d)
    by_test true = h.0
    by_test false = k.0

pub reset-settings : (vs ds : Values) → AreSettings vs → AreSettings ds → AreSettings (reset_from parameters vs ds)
reset-settings vs ds h k = reset-zip parameters vs ds h k

-- ---- what is accepted

-- what a text may be for a SET
abbrev pub IsGiven : Text → Type 0
IsGiven t = HasNoZero t × length t ≤ 2147483637

all-words : (P : Text → Type 0) (words : List (Text × Text)) (t : Text) → AllByRecursion (λ w. P w.1) words → OfSome P (kept_for words t)
all-words P [] t h = tt
all-words P (w ∷ words) t h = by_test (is_word t w) h.0 (all-words P words t h.1)
  where
    by_test : (b : Bool) → P w.1 → OfSome P (kept_for words t) → OfSome P (option_map (λ x. x.1) (cond b (Some w) (find (is_word t) words)))
    by_test true p q = p
    by_test false p q = q

when-some : (P : Text → Type 0) (b : Bool) (t : Text) → (b ≡ true → P t) → OfSome P (when b t)
when-some P true t h = h refl
when-some P false t h = tt

abbrev IsBrief : Text → Type 0
IsBrief t = HasNoZero t × length t ≤ 63

abbrev is_brief : Text → Bool
is_brief t = list_all (nat_lt 0) t && nat_le (length t) 63

all-brief : (words : List (Text × Text)) → list_all (λ w. is_brief w.1) words ≡ true → AllByRecursion (λ w. IsBrief w.1) words
all-brief words h = all-as _ _ (λ (w : Text × Text) k. (plain-text w.1 (and-first (list_all (nat_lt 0) w.1) (nat_le (length w.1) 63) k), leb-true (length w.1) 63 (and-second (list_all (nat_lt 0) w.1) (nat_le (length w.1) 63) k))) words (list_all-each (λ w. is_brief w.1) words h)

pub accepted : (p : Parameter) (t : Text) → IsGiven t → OfSome (IsSetting p) (accepted_of p t)
unfolding accepted_of date_styles
accepted ApplicationName t h = when-some (IsSetting ApplicationName) (nat_le (length t) 63) t (λ k. (h.0, leb-true (length t) 63 k))
accepted ClientEncoding t h = all-words IsBrief encodings (filter is_letter_or_digit (folded t)) (all-brief encodings refl)
accepted DateStyle t h = all-words IsBrief date_styles (folded t) (all-brief date_styles refl)
accepted IntegerDatetimes t h = tt
accepted IntervalStyle t h = all-words IsBrief interval_styles t (all-brief interval_styles refl)
accepted ServerEncoding t h = tt
accepted ServerVersion t h = tt
accepted StandardConformingStrings t h = all-words IsBrief switches (folded t) (all-brief switches refl)
accepted TimeZone t h = when-some (IsSetting TimeZone) (is_zone t) t (λ k. (h.0, leb-true (length t) 63 (and-second (nat_le 1 (length t)) (nat_le (length t) 63) (and-first (nat_le 1 (length t) && nat_le (length t) 63) (list_all is_in_zone t) k))))
accepted ExtraFloatDigits t h = when-some (IsSetting ExtraFloatDigits) (is_whole 15 3 t) t (λ k. h)
accepted SearchPath t h = when-some (IsSetting SearchPath) (nat_le (length t) 255) t (λ k. h)
accepted StatementTimeout t h = when-some (IsSetting StatementTimeout) (is_whole 0 2147483647 t) t (λ k. h)

-- ---- SET

kept-setting : (p : Parameter) (o : Option Text) → OfSome (IsSetting p) o → OfOk (IsSetting p) (kept o)
kept-setting p None h = tt
kept-setting p (Some t) h = h

choose : (P : Text → Type 0) (b : Bool) (x y : Result Text Cause) → OfOk P x → OfOk P y → OfOk P (if b then x else y)
choose P true x y h k = h
choose P false x y h k = k

new-setting : (ds : Values) (p : Parameter) (v : Option Text) → AreSettings ds → OfSome IsGiven v → OfOk (IsSetting p) (new_value ds p v)
new-setting ds p None h g = choose (IsSetting p) (is_fixed p) (Err FixedParameter) (Ok (value_of ds p)) tt (value-setting ds p h)
new-setting ds p (Some t) h g = choose (IsSetting p) (is_fixed p) (Err FixedParameter) (kept (accepted_of p t)) tt (kept-setting p (accepted_of p t) (accepted p t g))

value-settings : (vs : Values) (p : Parameter) (r : Result Text Cause) → AreSettings vs → OfOk (IsSetting p) r → OfOk AreSettings (set_value vs p r)
value-settings vs p (Ok t) h k = with-settings vs p t h k
value-settings vs p (Err c) h k = tt

found-settings : (ds vs : Values) (o : Option Parameter) (v : Option Text) → AreSettings ds → AreSettings vs → OfSome IsGiven v → OfOk AreSettings (set_found ds vs o v)
found-settings ds vs None v h k g = tt
found-settings ds vs (Some p) v h k g = value-settings vs p (new_value ds p v) k (new-setting ds p v h g)

pub set-settings : (ds vs : Values) (n : Text) (v : Option Text) → AreSettings ds → AreSettings vs → OfSome IsGiven v → OfOk AreSettings (set_parameter ds vs n v)
set-settings ds vs n v h k g = found-settings ds vs (parameter_named n) v h k g

-- ---- a start

abbrev pub IsPair : Text × Text → Type 0
IsPair p = HasNoZero p.1 × IsShort 10000 p.1

bound-settings : (r : Result Values Cause) (f : Values → Result Values Cause) → OfOk AreSettings r → ((vs : Values) → AreSettings vs → OfOk AreSettings (f vs)) → OfOk AreSettings (bound r f)
bound-settings (Ok vs) f h g = g vs h
bound-settings (Err c) f h g = tt

all-settings : (ds vs : Values) (ps : List (Text × Text)) → AreSettings ds → AreSettings vs → AllByRecursion IsPair ps → OfOk AreSettings (set_all ds vs ps)
all-settings ds vs [] h k g = k
all-settings ds vs (p ∷ ps) h k g =
    bound-settings (set_parameter ds vs p.0 (Some p.1)) (λ ws. set_all ds ws ps) (set-settings ds vs p.0 (Some p.1) h k (g.0.0, omega (arith, g.0.1))) (λ ws w. all-settings ds ws ps h w g.1)

default-settings : (version : Text) → HasNoZero version × IsShort 63 version → AreSettings (defaults version)
default-settings version h = ((plain-text (default version ApplicationName) refl, omega arith), ((plain-text (default version ClientEncoding) refl, omega arith), ((plain-text (default version DateStyle) refl, omega arith), ((plain-text (default version IntegerDatetimes) refl, omega arith), ((plain-text (default version IntervalStyle) refl, omega arith), ((plain-text (default version ServerEncoding) refl, omega arith), ((h.0, h.1), ((plain-text (default version StandardConformingStrings) refl, omega arith), ((plain-text (default version TimeZone) refl, omega arith), ((plain-text (default version ExtraFloatDigits) refl, omega arith), ((plain-text (default version SearchPath) refl, omega arith), ((plain-text (default version StatementTimeout) refl, omega arith), tt))))))))))))

started-settings : (r : Result Values Cause) (s : State) → OfOk AreSettings r → started r ≡ Ok s → AreSettings s.defaults
started-settings (Ok vs) s h e = let e' : begun vs ≡ s = ok-inj (begun vs) s e in subst (λ (t : State). AreSettings t.defaults) e' h
started-settings (Err c) s h e = absurd cc

pub fresh-settings : (cat : CatalogueOf) (key : StartKeyOf) (s : State) → HasNoZero cat.version × IsShort 63 cat.version → AllByRecursion IsPair key.parameters → fresh cat key ≡ Ok s → AreSettings s.defaults
unfolding fresh started_over
fresh-settings cat key s v h e = by_test (has_text cat.databases key.dbname) e
  where
    by_test : (b : Bool) → (if b then started (set_all (defaults cat.version) (defaults cat.version) key.parameters) else Err NoDatabase) ≡ Ok s → AreSettings s.defaults
    by_test true k = started-settings (set_all (defaults cat.version) (defaults cat.version) key.parameters) s (all-settings (defaults cat.version) (defaults cat.version) key.parameters (default-settings cat.version v) (default-settings cat.version v) h) k
    by_test false k = absurd cc
