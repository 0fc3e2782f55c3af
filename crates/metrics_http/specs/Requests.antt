-- What is asked by the bytes that came of a request (RFC 9112, 2 and 3; RFC 9110, 7.2 and 15.5).
use Rattle.std.specs.Prelude.{◌≡◌, ℕ, ◌<◌, ◌≤◌, Bool, true, ◌||◌, ◌==◌, List, ◌++◌, Option, Some, None, codes, length, map, All, IsTrue}
use Rattle.std.specs.List.{list_any}
use Rattle.httparse.specs.Grammar.{RequestHead, ReadsRequest, HasNoRequest, MayBecomeRequest, print_request}
use Rattle.httparse.specs.Spans.{name_and_value}
use Rattle.metrics_http.specs.declared.request.TheConstants.{MAX_HEAD, MAX_FIELDS}
use Rattle.metrics_http.specs.declared.request.Asked.{Asked}
use Rattle.metrics_http.specs.declared.request.Asked.TheVariants.{Metrics, Malformed, NotFound, NotAllowed, Misdirected}
use Rattle.metrics_http.specs.Hosts.{NamesHere, same_word}

-- ---- whom a request is meant for

-- a field's name and value
abbrev pub FieldOf : Type 0
FieldOf = List ℕ × List ℕ

abbrev pub is_host : FieldOf → Bool
is_host f = same_word f.0 (codes "host")

abbrev pub NamesNoOther : FieldOf → Type 0
NamesNoOther f = is_host f ≡ true → NamesHere f.1

-- each Host names this machine or an address; and there is one, which HTTP/1.0 doesn't ask for
pub record IsWelcome (minor : ℕ) (fields : List FieldOf) : Type 0 where
  pub here : All NamesNoOther fields
  pub said : IsTrue (minor == 0 || list_any is_host fields)

-- at an address of this machine alone whoever names another is turned away: a page of another site that has its name lead here
abbrev pub Welcomes : Bool → ℕ → List FieldOf → Type 0
Welcomes is_local minor fields = IsTrue is_local → IsWelcome minor fields

abbrev pub IsMeant : Bool → RequestHead → Type 0
IsMeant is_local h = Welcomes is_local h.minor (map name_and_value h.fields)

-- ---- what it asks for

-- a head of so many bytes and fields at most
abbrev pub IsTaken : RequestHead → Type 0
IsTaken h = (length (print_request h) ≤ MAX_HEAD) × (length h.fields ≤ MAX_FIELDS)

-- such a head stands in front, of which P holds
abbrev pub Begins : List ℕ → (RequestHead → Type 0) → Type 0
Begins bytes P = (h : RequestHead) × (rest : List ℕ) × ReadsRequest bytes h rest × IsTaken h × P h

-- whatever follows, no such head stands in front
abbrev pub NeverBegins : List ℕ → Type 0
NeverBegins bytes = (more : List ℕ) (h : RequestHead) (rest : List ℕ) → ReadsRequest (bytes ++ more) h rest → ¬ (IsTaken h)

abbrev pub IsPath : RequestHead → Type 0
IsPath h = h.target ≡ codes "/metrics"

abbrev pub IsGet : RequestHead → Type 0
IsGet h = h.method ≡ codes "GET"

abbrev pub Answers : Bool → List ℕ → Asked → Type 0
Answers is_local bytes Metrics = Begins bytes (λ h. IsMeant is_local h × IsPath h × IsGet h)
Answers is_local bytes NotAllowed = Begins bytes (λ h. IsMeant is_local h × IsPath h × (¬ (IsGet h)))
Answers is_local bytes NotFound = Begins bytes (λ h. IsMeant is_local h × (¬ (IsPath h)))
Answers is_local bytes Misdirected = Begins bytes (λ h. ¬ (IsMeant is_local h))
Answers is_local bytes Malformed = NeverBegins bytes

-- nothing, while there is no head and one may still come that is taken
abbrev pub Tells : Bool → List ℕ → Option Asked → Type 0
Tells is_local bytes None = HasNoRequest bytes × MayBecomeRequest bytes × (length bytes < MAX_HEAD)
Tells is_local bytes (Some asked) = Answers is_local bytes asked
