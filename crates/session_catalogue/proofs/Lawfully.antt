-- What a file spells is a catalogue that the laws speak of.
use Rattle.std.proofs.Common.{◌≡◌, ◌≤◌, ◌<◌, ℕ, zero, suc, Bool, List, [], ◌∷◌, ◌++◌, length, map, Option, Some, None, Result, Ok, Err, true, false, refl, sym, ap, ◌∙◌, subst, arith, append_assoc, append-nil, eqb-true}
use Rattle.std.proofs.lemmas.Bool.{leb-true}
use Rattle.std.specs.Prelude.{◌&&◌, nat_le, if◌then◌else◌, IfOk, slice_index, codes}
use Rattle.std.specs.List.{AllByRecursion, list_all}
use Rattle.message_view.specs.Bodies.{HasNoZero}
use Rattle.text_lines.specs.Files.{or_later}
use Rattle.mini_sql.specs.Words.{Text, same_text}
use Rattle.session_catalogue.specs.declared.catalogue_fault.CatalogueCause.{CatalogueCause}
use Rattle.session_catalogue.specs.declared.catalogue_fault.CatalogueCause.TheVariants.{WrongNumberOfValues}
use Rattle.session_catalogue.specs.declared.catalogue_fault.CatalogueError.{CatalogueError}
use Rattle.session_values.specs.State.{CatalogueOf, TableOf, Row}
use Rattle.session_values.specs.Lawful.{IsLawfulCatalogue, IsLawfulTable, IsValue, IsShort}
use Rattle.session_catalogue.specs.Catalogues.{PartsOf, Said, SaysNothing, SaysVersion, SaysDatabase, SaysTable, SaysRow, Unreadable, IsReadOf, said, parts, fault_of, first_fault, whole, judged, is_not_zero, is_version, is_value, is_lower_name, is_in_lower_name, starts_lower_name, are_columns, value_of, fields, fields_said, version_said, database_said, table_said, row_said, row_fault, last_of}
use Rattle.session_catalogue.specs.Drafts.{with_said, with_row, with_last_row}
use Rattle.session_values.proofs.Alls.{all-as, all-append, and-first, and-second, list_all-each}
use Rattle.session_catalogue.proofs.Rowings.{last_later}
use Rattle.session_catalogue.proofs.Saids.{parts-push}

-- ---- tests and what they tell

all-by : {A : Type 0} (test : A → Bool) (P : A → Type 0) → ((x : A) → test x ≡ true → P x) → (xs : List A) → list_all test xs ≡ true → AllByRecursion P xs
all-by test P each xs e = all-as (λ x. test x ≡ true) P each xs (list_all-each test xs e)

not-zero : (b : ℕ) → is_not_zero b ≡ true → 0 < b
not-zero zero e = absurd (cc)
not-zero (suc b) e = omega arith

name-not-zero : (b : ℕ) → is_in_lower_name b ≡ true → 0 < b
name-not-zero zero e = absurd (cc)
name-not-zero (suc b) e = omega arith

name-good : (t : Text) → is_lower_name t ≡ true → HasNoZero t × IsShort 63 t
name-good t e =
    let long = nat_le 1 (length t) in
    let short = nat_le (length t) 63 in
    let starts = starts_lower_name (slice_index t 0) in
    let all = list_all is_in_lower_name t in (
      all-by is_in_lower_name (λ b. 0 < b) name-not-zero t (and-second (long && short && starts) all e),
      leb-true (length t) 63 (and-second long short (and-first (long && short) starts (and-first (long && short && starts) all e))),
    )

-- ---- one line

abbrev pub IsGoodSaid : Said → Type 0
IsGoodSaid SaysNothing = Unit {0}
IsGoodSaid (SaysVersion t) = HasNoZero t × IsShort 63 t
IsGoodSaid (SaysDatabase n) = Unit {0}
IsGoodSaid (SaysTable n cs) = (length cs ≤ 64) × AllByRecursion (λ c. HasNoZero c × IsShort 63 c) cs
IsGoodSaid (SaysRow vs) = AllByRecursion IsValue vs
IsGoodSaid Unreadable = Unit {0}

either-good : (t : Bool) (a b : Said) → IsGoodSaid a → IsGoodSaid b → IsGoodSaid (if t then a else b)
either-good true a b ga gb = ga
either-good false a b ga gb = gb

good-if : (t : Bool) (a : Said) → (t ≡ true → IsGoodSaid a) → IsGoodSaid (if t then a else Unreadable)
good-if true a good = good refl
good-if false a good = tt

version-good : (fs : List Text) → IsGoodSaid (version_said fs)
version-good [] = tt
version-good (t ∷ []) = good-if (is_version t) (SaysVersion t) (λ e. (
  all-by is_not_zero (λ b. 0 < b) not-zero t (and-second (nat_le (length t) 63) (list_all is_not_zero t) e),
  leb-true (length t) 63 (and-first (nat_le (length t) 63) (list_all is_not_zero t) e),
))
version-good (t ∷ u ∷ fs) = tt

database-good : (fs : List Text) → IsGoodSaid (database_said fs)
database-good [] = tt
database-good (n ∷ []) = tt
database-good (n ∷ u ∷ fs) = tt

columns-good : (cs : List Text) → are_columns cs ≡ true → (length cs ≤ 64) × AllByRecursion (λ c. HasNoZero c × IsShort 63 c) cs
columns-good cs e =
    let some = nat_le 1 (length cs) in
    let few = nat_le (length cs) 64 in
    let names = list_all is_lower_name cs in
    (leb-true (length cs) 64 (and-second some few (and-first (some && few) names e)), all-by is_lower_name (λ c. HasNoZero c × IsShort 63 c) name-good cs (and-second (some && few) names e))

table-good : (fs : List Text) → IsGoodSaid (table_said fs)
table-good [] = tt
table-good (n ∷ cs) = good-if (is_lower_name n && are_columns cs) (SaysTable n cs) (λ e. columns-good cs (and-second (is_lower_name n) (are_columns cs) e))

value-good : (t : Bool) (f : Text) → length f ≤ 1048576 → IsValue (if t then None else Some f)
value-good true f short = tt
value-good false f short = short

values-good : (fs : List Text) → list_all is_value fs ≡ true → AllByRecursion IsValue (map value_of fs)
values-good [] e = tt
values-good (f ∷ fs) e = (
  value-good (same_text f (92 ∷ 78 ∷ [])) f (leb-true (length f) 1048576 (and-first (is_value f) (list_all is_value fs) e)),
  values-good fs (and-second (is_value f) (list_all is_value fs) e),
)

fields-good : (fs : List Text) → IsGoodSaid (fields_said fs)
fields-good [] = tt
fields-good (kind ∷ fs) =
    let as_row = if same_text kind (codes "row") then row_said fs else Unreadable in
    let as_table = if same_text kind (codes "table") then table_said fs else as_row in
    let as_database = if same_text kind (codes "database") then database_said fs else as_table in
    either-good (same_text kind (codes "version")) (version_said fs) as_database (version-good fs)
    (either-good (same_text kind (codes "database")) (database_said fs) as_table (database-good fs)
    (either-good (same_text kind (codes "table")) (table_said fs) as_row (table-good fs)
    (good-if (same_text kind (codes "row")) (row_said fs) (λ e. good-if (list_all is_value fs) (SaysRow (map value_of fs)) (values-good fs)))))

said-good : (line : Text) → IsGoodSaid (said line)
unfolding said
said-good [] = tt
said-good (b ∷ bs) = fields-good (fields (b ∷ bs))

all-good : (lines : List Text) → AllByRecursion IsGoodSaid (map said lines)
all-good [] = tt
all-good (line ∷ lines) = (said-good line, all-good lines)

-- ---- what the lines spell together

abbrev pub IsGoodVersion : Option Text → Type 0
IsGoodVersion None = Unit {0}
IsGoodVersion (Some t) = HasNoZero t × IsShort 63 t

pub record AreGood (p : PartsOf) : Type 0 where
  pub version : IsGoodVersion p.version
  pub tables : AllByRecursion IsLawfulTable p.tables

abbrev pub IsGoodRow : Row → Type 0
IsGoodRow r = (length r ≤ 64) × AllByRecursion IsValue r

same-length : (b : Bool) → (if b then None else Some WrongNumberOfValues) ≡ None → b ≡ true
same-length true e = refl
same-length false e = absurd (cc)

with_row-good : (t : TableOf) (vs : Row) → row_fault (Some t) vs ≡ None → AllByRecursion IsValue vs → IsLawfulTable t → IsLawfulTable (with_row t vs)
with_row-good t vs none good lawful =
    let same : length vs ≡ length t.columns = eqb-true (length vs) (length t.columns) (same-length _ none) in
    record { width = lawful.width; columns = lawful.columns; rows = all-append IsGoodRow t.rows (vs ∷ []) lawful.rows ((omega (arith, same, lawful.width), good), tt) }

last-good : (ts : List TableOf) (vs : Row) → row_fault (last_of ts) vs ≡ None → AllByRecursion IsValue vs → AllByRecursion IsLawfulTable ts → AllByRecursion IsLawfulTable (with_last_row ts vs)
last-good [] vs none good all = tt
last-good (t ∷ []) vs none good all = (with_row-good t vs none good all.0, tt)
last-good (t ∷ u ∷ ts) vs none good all = (all.0, last-good (u ∷ ts) vs (ap (λ o. row_fault o vs) (sym (last_later t u ts)) ∙ none) good all.1)

said-adds : (p : PartsOf) (s : Said) → IsGoodSaid s → fault_of p s ≡ None → AreGood p → AreGood (with_said p s)
said-adds p SaysNothing good none are = are
said-adds p (SaysVersion t) good none are = record { version = good; tables = are.tables }
said-adds p (SaysDatabase n) good none are = record { version = are.version; tables = are.tables }
said-adds p (SaysTable n cs) good none are = record { version = are.version; tables = all-append IsLawfulTable p.tables _ are.tables (record { width = good.0; columns = good.1; rows = tt }, tt) }
said-adds p (SaysRow vs) good none are = record { version = are.version; tables = last-good p.tables vs none good are.tables }
said-adds p Unreadable good none are = are

neither : {C : Type 0} (f : Option C) (n : ℕ) (later : Option (C × ℕ)) → or_later f n later ≡ None → (f ≡ None) × (later ≡ None)
neither None n later e = (refl, e)
neither (Some c) n later e = absurd (cc)

all-add : (before ss : List Said) → AllByRecursion IsGoodSaid ss → first_fault before ss ≡ None → AreGood (parts before) → AreGood (parts (before ++ ss))
all-add before [] good none are = subst (λ ss. AreGood (parts ss)) (sym (append-nil before)) are
all-add before (s ∷ ss) good none are =
    let no_fault = neither (fault_of (parts before) s) _ _ none in
    let next = subst AreGood (sym (parts-push before s no_fault.0)) (said-adds (parts before) s good.0 no_fault.0 are) in
    subst (λ xs. AreGood (parts xs)) (append_assoc before (s ∷ []) ss) (all-add (before ++ s ∷ []) ss good.1 no_fault.1 next)

no-lines : AreGood (parts [])
unfolding parts
no-lines = record { version = tt; tables = tt }

-- ---- the whole file

whole-lawful : (v : Option Text) (ds : List Text) (ts : List TableOf) (c : CatalogueOf) → IsGoodVersion v → AllByRecursion IsLawfulTable ts → whole v ds ts ≡ Ok c → IsLawfulCatalogue c
whole-lawful None ds ts c good all is = absurd (cc)
whole-lawful (Some v) [] ts c good all is = absurd (cc)
whole-lawful (Some v) (d ∷ ds) ts c good all is =
    let same : record { version = v; databases = d ∷ ds; tables = ts } ≡ c = cc in
    subst IsLawfulCatalogue same (record { version = good; tables = all })

judged-lawful : (f : Option (CatalogueCause × ℕ)) (p : PartsOf) (c : CatalogueOf) → (f ≡ None → AreGood p) → judged f p ≡ Ok c → IsLawfulCatalogue c
judged-lawful (Some f) p c good is = absurd (cc)
judged-lawful None p c good is = let are = good refl in whole-lawful p.version p.databases p.tables c are.version are.tables is

pub read_is_lawful : (all : List Text) (r : Result CatalogueOf CatalogueError) → IsReadOf all r → IfOk r (λ c. IsLawfulCatalogue c)
read_is_lawful all (Ok c) is = judged-lawful (first_fault [] (map said all)) (parts (map said all)) c (λ none. all-add [] (map said all) (all-good all) none no-lines) is
read_is_lawful all (Err f) is = tt
