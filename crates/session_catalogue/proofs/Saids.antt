-- What lines spell together, one line more.
use Rattle.std.proofs.Common.{◌≡◌, Bool, List, [], ◌∷◌, ◌++◌, Option, Some, None, true, false, refl, ap, ◌∙◌, append-nil}
use Rattle.std.specs.Prelude.{◌&&◌, if◌then◌else◌}
use Rattle.std.specs.List.{list_all}
use Rattle.std.proofs.lemmas.List.Folds.{list_all-append}
use Rattle.mini_sql.specs.Words.{Text}
use Rattle.session_catalogue.specs.declared.catalogue_fault.CatalogueCause.TheVariants.{NotALine}
use Rattle.session_values.specs.State.{TableOf, Row}
use Rattle.session_catalogue.specs.Catalogues.{PartsOf, Said, SaysNothing, SaysVersion, SaysDatabase, SaysTable, SaysRow, Unreadable, says_nothing, version_of, databases_of, rows_above, tables_of, parts, fault_of}
use Rattle.session_catalogue.specs.Drafts.{with_last_row, with_said}

-- ---- versions

abbrev pub or_else : {A : Type 0} → Option A → Option A → Option A
or_else (Some x) y = Some x
or_else None y = y

version_of-append : (xs ys : List Said) → version_of (xs ++ ys) ≡ or_else (version_of xs) (version_of ys)
version_of-append [] ys = refl
version_of-append (SaysNothing ∷ xs) ys = version_of-append xs ys
version_of-append (SaysVersion t ∷ xs) ys = refl
version_of-append (SaysDatabase n ∷ xs) ys = version_of-append xs ys
version_of-append (SaysTable n cs ∷ xs) ys = version_of-append xs ys
version_of-append (SaysRow vs ∷ xs) ys = version_of-append xs ys
version_of-append (Unreadable ∷ xs) ys = version_of-append xs ys

or_else-none : {A : Type 0} (o : Option A) → or_else o None ≡ o
or_else-none None = refl
or_else-none (Some x) = refl

no_version : (xs : List Said) → list_all says_nothing xs ≡ true → version_of xs ≡ None
no_version [] none = refl
no_version (SaysNothing ∷ xs) none = no_version xs none
no_version (SaysVersion t ∷ xs) none = absurd (cc)
no_version (SaysDatabase n ∷ xs) none = absurd (cc)
no_version (SaysTable n cs ∷ xs) none = absurd (cc)
no_version (SaysRow vs ∷ xs) none = absurd (cc)
no_version (Unreadable ∷ xs) none = absurd (cc)

-- ---- databases

databases_of-append : (xs ys : List Said) → databases_of (xs ++ ys) ≡ databases_of xs ++ databases_of ys
databases_of-append [] ys = refl
databases_of-append (SaysNothing ∷ xs) ys = databases_of-append xs ys
databases_of-append (SaysVersion t ∷ xs) ys = databases_of-append xs ys
databases_of-append (SaysDatabase n ∷ xs) ys = ap (λ ns. n ∷ ns) (databases_of-append xs ys)
databases_of-append (SaysTable n cs ∷ xs) ys = databases_of-append xs ys
databases_of-append (SaysRow vs ∷ xs) ys = databases_of-append xs ys
databases_of-append (Unreadable ∷ xs) ys = databases_of-append xs ys

-- ---- tables

-- rows more for the last table
with_rows : List TableOf → List Row → List TableOf
with_rows [] rs = []
with_rows (t ∷ []) rs = record t { rows = t.rows ++ rs } ∷ []
with_rows (t ∷ u ∷ ts) rs = t ∷ with_rows (u ∷ ts) rs

with_rows-none : (ts : List TableOf) → with_rows ts [] ≡ ts
unfolding with_rows
with_rows-none [] = refl
with_rows-none (t ∷ []) = ap (λ rs. record t { rows = rs } ∷ []) (append-nil t.rows)
with_rows-none (t ∷ u ∷ ts) = ap (λ us. t ∷ us) (with_rows-none (u ∷ ts))

with_rows-one : (ts : List TableOf) (vs : Row) → with_rows ts (vs ∷ []) ≡ with_last_row ts vs
unfolding with_rows
with_rows-one [] vs = refl
with_rows-one (t ∷ []) vs = refl
with_rows-one (t ∷ u ∷ ts) vs = ap (λ us. t ∷ us) (with_rows-one (u ∷ ts) vs)

-- rows go on to the first table
goes_on : List TableOf → List Row → List Row → List Row
goes_on [] above more = above ++ more
goes_on (t ∷ ts) above more = above

goes_on-next : (ts : List TableOf) (vs : Row) (above more : List Row) → vs ∷ goes_on ts above more ≡ goes_on ts (vs ∷ above) more
unfolding goes_on
goes_on-next [] vs above more = refl
goes_on-next (t ∷ ts) vs above more = refl

rows_above-append : (xs ys : List Said) → rows_above (xs ++ ys) ≡ goes_on (tables_of xs) (rows_above xs) (rows_above ys)
unfolding goes_on
rows_above-append [] ys = refl
rows_above-append (SaysNothing ∷ xs) ys = rows_above-append xs ys
rows_above-append (SaysVersion t ∷ xs) ys = rows_above-append xs ys
rows_above-append (SaysDatabase n ∷ xs) ys = rows_above-append xs ys
rows_above-append (SaysTable n cs ∷ xs) ys = refl
rows_above-append (SaysRow vs ∷ xs) ys = ap (λ rs. vs ∷ rs) (rows_above-append xs ys) ∙ goes_on-next (tables_of xs) vs (rows_above xs) (rows_above ys)
rows_above-append (Unreadable ∷ xs) ys = rows_above-append xs ys

table-first : (t : TableOf) (ts : List TableOf) (above more rows : List Row) (us all : List TableOf) → rows ≡ goes_on ts above more → all ≡ with_rows ts more ++ us
    → record t { rows = rows } ∷ all ≡ with_rows (record t { rows = above } ∷ ts) more ++ us
unfolding with_rows goes_on
table-first t [] above more rows us all r a = ap (λ x. record t { rows = x } ∷ all) r ∙ ap (λ x. record t { rows = above ++ more } ∷ x) a
table-first t (u ∷ ts) above more rows us all r a = ap (λ x. record t { rows = x } ∷ all) r ∙ ap (λ x. record t { rows = above } ∷ x) a

tables_of-append : (xs ys : List Said) → tables_of (xs ++ ys) ≡ with_rows (tables_of xs) (rows_above ys) ++ tables_of ys
unfolding with_rows
tables_of-append [] ys = refl
tables_of-append (SaysNothing ∷ xs) ys = tables_of-append xs ys
tables_of-append (SaysVersion t ∷ xs) ys = tables_of-append xs ys
tables_of-append (SaysDatabase n ∷ xs) ys = tables_of-append xs ys
tables_of-append (SaysTable n cs ∷ xs) ys =
    table-first (record { name = n; columns = cs; rows = [] }) (tables_of xs) (rows_above xs) (rows_above ys) (rows_above (xs ++ ys)) (tables_of ys) (tables_of (xs ++ ys)) (rows_above-append xs ys) (tables_of-append xs ys)
tables_of-append (SaysRow vs ∷ xs) ys = tables_of-append xs ys
tables_of-append (Unreadable ∷ xs) ys = tables_of-append xs ys

no_rows-tables : (xs ys : List Said) → rows_above ys ≡ [] → tables_of (xs ++ ys) ≡ tables_of xs ++ tables_of ys
no_rows-tables xs ys none = tables_of-append xs ys ∙ ap (λ rs. with_rows (tables_of xs) rs ++ tables_of ys) none ∙ ap (λ ts. ts ++ tables_of ys) (with_rows-none (tables_of xs))

quiet-tables : (xs ys : List Said) → rows_above ys ≡ [] → tables_of ys ≡ [] → tables_of (xs ++ ys) ≡ tables_of xs
quiet-tables xs ys rows tables = no_rows-tables xs ys rows ∙ ap (λ ts. tables_of xs ++ ts) tables ∙ append-nil (tables_of xs)

row-tables : (xs : List Said) (vs : Row) → tables_of (xs ++ SaysRow vs ∷ []) ≡ with_last_row (tables_of xs) vs
row-tables xs vs = tables_of-append xs (SaysRow vs ∷ []) ∙ append-nil (with_rows (tables_of xs) (vs ∷ [])) ∙ with_rows-one (tables_of xs) vs

-- ---- all of it

quiet-version : (xs ys : List Said) → version_of ys ≡ None → version_of (xs ++ ys) ≡ version_of xs
quiet-version xs ys none = version_of-append xs ys ∙ ap (or_else (version_of xs)) none ∙ or_else-none (version_of xs)

quiet-databases : (xs ys : List Said) → databases_of ys ≡ [] → databases_of (xs ++ ys) ≡ databases_of xs
quiet-databases xs ys none = databases_of-append xs ys ∙ ap (λ ns. databases_of xs ++ ns) none ∙ append-nil (databases_of xs)

and-true : (b : Bool) → (b && true) ≡ b
and-true true = refl
and-true false = refl

and-false : (b : Bool) → (b && false) ≡ false
and-false true = refl
and-false false = refl

loud : (xs : List Said) (s : Said) → says_nothing s ≡ false → list_all says_nothing (xs ++ s ∷ []) ≡ false
loud xs s says = list_all-append says_nothing xs (s ∷ []) ∙ ap (λ b. list_all says_nothing xs && (b && true)) says ∙ and-false (list_all says_nothing xs)

untouched-if : (u : Bool) → (if u then None else Some NotALine) ≡ None → u ≡ true
untouched-if true e = refl
untouched-if false e = absurd (cc)

abbrev pub made : Bool → Option Text → List Text → List TableOf → PartsOf
made u v ds ts = record { untouched = u; version = v; databases = ds; tables = ts }

made-same : {u w : Bool} {v x : Option Text} {ds es : List Text} {ts us : List TableOf} → u ≡ w → v ≡ x → ds ≡ es → ts ≡ us → made u v ds ts ≡ made w x es us
made-same {w = w} {v = v} {x = x} {ds = ds} {es = es} {ts = ts} u_w v_x d_e t_u =
    ap (λ u. made u v ds ts) u_w ∙ ap (λ o. made w o ds ts) v_x ∙ ap (λ l. made w x l ts) d_e ∙ ap (λ l. made w x es l) t_u

pub parts-push : (xs : List Said) (s : Said) → fault_of (parts xs) s ≡ None → parts (xs ++ s ∷ []) ≡ with_said (parts xs) s
unfolding parts
parts-push xs SaysNothing none =
    let ys = SaysNothing ∷ [] in
    made-same (list_all-append says_nothing xs ys ∙ and-true (list_all says_nothing xs)) (quiet-version xs ys refl) (quiet-databases xs ys refl) (quiet-tables xs ys refl refl)
parts-push xs (SaysVersion t) none =
    let ys = SaysVersion t ∷ [] in
    let before = no_version xs (untouched-if (list_all says_nothing xs) none) in
    made-same (loud xs (SaysVersion t) refl) (version_of-append xs ys ∙ ap (λ o. or_else o (Some t)) before) (quiet-databases xs ys refl) (quiet-tables xs ys refl refl)
parts-push xs (SaysDatabase n) none =
    let ys = SaysDatabase n ∷ [] in
    made-same (loud xs (SaysDatabase n) refl) (quiet-version xs ys refl) (databases_of-append xs ys) (quiet-tables xs ys refl refl)
parts-push xs (SaysTable n cs) none =
    let ys = SaysTable n cs ∷ [] in
    made-same (loud xs (SaysTable n cs) refl) (quiet-version xs ys refl) (quiet-databases xs ys refl) (no_rows-tables xs ys refl)
parts-push xs (SaysRow vs) none =
    let ys = SaysRow vs ∷ [] in
    made-same (loud xs (SaysRow vs) refl) (quiet-version xs ys refl) (quiet-databases xs ys refl) (row-tables xs vs)
parts-push xs Unreadable none = absurd (cc)
