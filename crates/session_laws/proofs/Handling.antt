-- Every handler keeps a lawful session lawful, its reported values as they are, and replies plain frames.
use Rattle.std.proofs.Common.{◌≡◌, ℕ, zero, suc, ◌≤◌, List, [], ◌∷◌, ◌++◌, length, map, filter, Option, Some, None, Result, Ok, Err, refl, ap, Bool, true, false, ◌&&◌, arith}
use Rattle.std.specs.Prelude.{nat_le, if◌then◌else◌, codes, slice_get}
use Rattle.std.specs.Fmt.{decimal}
use Rattle.std.specs.List.{AllByRecursion}
use Rattle.frame_view.specs.Frames.{FrameOf}
use Rattle.message_view.specs.Messages.{data_row, command_complete}
use Rattle.mini_sql.specs.Words.{Text}
use Rattle.mini_sql.specs.Statements as st
use Rattle.mini_sql.specs.Statements.{Statement, Equals, Operand, statement, parameters_of}
use Rattle.session_values.specs.declared.block.Block.{Block}
use Rattle.session_values.specs.declared.block.Block.TheVariants.{Outside, Inside, Failed}
use Rattle.session_values.specs.declared.parameter.Parameter.{Parameter}
use Rattle.session_values.specs.declared.parameter.Parameter.TheVariants.{ApplicationName, ClientEncoding, DateStyle, IntegerDatetimes, IntervalStyle, ServerEncoding, ServerVersion, StandardConformingStrings, TimeZone, ExtraFloatDigits, SearchPath, StatementTimeout}
use Rattle.session_values.specs.declared.cause.Cause.{Cause}
use Rattle.session_values.specs.declared.cause.Cause.TheVariants.{NoTable, NoColumn, Syntax, Aborted}
use Rattle.session_values.specs.Parameters.{Values, name, parameter_named, value_of}
use Rattle.session_values.specs.Named.{named, is_named}
use Rattle.session_values.specs.State.{State, CatalogueOf, TableOf, table_name, CursorOf, cursor_name, Row, Answer, bound}
use Rattle.session_values.specs.Lookups.{Columns, look_up, look_up_rows, found, or_else, readable, to_read, shown, selected, has_all, has_filter, look_up_select, look_up_cursor, look_up_insert, to_change}
use Rattle.session_values.specs.Runs as runs
use Rattle.session_values.specs.Runs.{Ran, Outcome, rows_from, picked, column_of, cell, cell_at, meets, row_tag, given_frames, or_null, condition_of, places_of}
use Rattle.session_values.specs.Extended.{usable, reading, let_through, may_end_block, formats_of}
use Rattle.session_values.specs.Step.{heading}
use Rattle.session_values.specs.Lawful.{IsShort, IsValue}
use Rattle.session_values.proofs.Alls.{OfSome, all-each, all-append, all-map, all-filter, all-find}
use Rattle.session_laws.proofs.GoodValues.{AreSettings, AreReported, OfOk, longest, value-setting}
use Rattle.session_laws.specs.Statements.{IsSpelled}
use Rattle.session_laws.proofs.Spelled.{spelled, longer-some}
use Rattle.session_laws.proofs.Lawful.{IsPlain, IsSendable, row-plain, IsRow, IsTable, IsSource, IsPrepared, IsPortal, IsCursor, IsSaved, Lawful, row-sendable, one-sendable, AreColumns, columns-plain, tag-plain, decimal-length}

pub record StaysLawful (s : State) (after : State) (sent : List FrameOf) : Type 0 where
  pub lawful : Lawful after
  pub reported : after.reported ≡ s.reported
  pub plain : AllByRecursion IsPlain sent

abbrev pub AllKept : State → Result Answer Cause → Type 0
AllKept s (Ok a) = StaysLawful s a.next a.replies
AllKept s (Err c) = Unit {0}

-- what a statement gives can be sent
abbrev pub IsOutcome : Outcome → Type 0
IsOutcome runs.Nothing = Unit {0}
IsOutcome (runs.Done tag) = length tag ≤ 100
IsOutcome (runs.Rows rows) = AllByRecursion IsSendable rows

-- a run's state and notices, and what it gives
abbrev pub IsRan : State → Ran → Type 0
IsRan s r = StaysLawful s r.after r.notices × IsOutcome r.outcome

abbrev pub RanKept : State → Result Ran Cause → Type 0
RanKept s r = OfOk (IsRan s) r

pub kept : (s after : State) (sent : List FrameOf) → Lawful after → after.reported ≡ s.reported → AllByRecursion IsPlain sent → StaysLawful s after sent
kept s after sent l r p = record { lawful = l; reported = r; plain = p }

pub made : (s : State) → AreSettings s.defaults → AreSettings s.current → AreReported s.reported → IsSaved s.saved → AllByRecursion IsPrepared s.statements → AllByRecursion IsPortal s.portals → AllByRecursion IsTable s.tables → AreSettings s.lasting → AllByRecursion IsCursor s.cursors → Lawful s
made s d c r v p o t l k = record { defaults = d; current = c; reported = r; saved = v; statements = p; portals = o; tables = t; lasting = l; cursors = k }

pub bound-kept : {A : Type 0} (P : A → Type 0) (s : State) (r : Result A Cause) (f : A → Result Answer Cause) → OfOk P r → ((x : A) → P x → AllKept s (f x)) → AllKept s (bound r f)
bound-kept P s (Ok x) f h g = g x h
bound-kept P s (Err c) f h g = tt

abbrev pub Any : {A : Type 0} → A → Type 0
Any x = Unit {0}

pub any : {A : Type 0} (r : Result A Cause) → OfOk Any r
any (Ok x) = tt
any (Err c) = tt

pub found-ok : {A : Type 0} (P : A → Type 0) (c : Cause) (o : Option A) → OfSome P o → OfOk P (found c o)
found-ok P c (Some x) h = h
found-ok P c None h = tt

-- ---- what a text spells

-- a statement that a text may spell
abbrev pub IsRead : Statement → Type 0
IsRead x = IsSpelled 2147483642 x

pub reading-read : (t : Text) → IsSource t → OfOk IsRead (reading t)
reading-read t h = found-ok IsRead Syntax (statement t) (longer-some (length t) 2147483642 (statement t) h.1 (spelled t h.0))

through : (b : Bool) (x : Statement) → IsRead x → OfOk IsRead (if b then Ok x else Err Aborted)
through true x h = h
through false x h = tt

let_through-read : (b : Block) (x : Statement) → IsRead x → OfOk IsRead (let_through b x)
let_through-read Outside x h = h
let_through-read Inside x h = h
let_through-read Failed x h = through (may_end_block x) x h

bound-read : (r : Result Statement Cause) (b : Block) → OfOk IsRead r → OfOk IsRead (bound r (let_through b))
bound-read (Ok x) b h = let_through-read b x h
bound-read (Err c) b h = tt

pub usable-read : (s : State) (t : Text) → IsSource t → OfOk IsRead (usable s t)
usable-read s t h = bound-read (reading t) s.block (reading-read t h)

-- ---- look-ups

or_else-some : {A : Type 0} (P : A → Type 0) (a b : Option A) → OfSome P a → OfSome P b → OfSome P (or_else a b)
or_else-some P (Some x) b h k = h
or_else-some P None b h k = k

pub name-short : (p : Parameter) → length (name p) ≤ 63
name-short ApplicationName = omega arith
name-short ClientEncoding = omega arith
name-short DateStyle = omega arith
name-short IntegerDatetimes = omega arith
name-short IntervalStyle = omega arith
name-short ServerEncoding = omega arith
name-short ServerVersion = omega arith
name-short StandardConformingStrings = omega arith
name-short TimeZone = omega arith
name-short ExtraFloatDigits = omega arith
name-short SearchPath = omega arith
name-short StatementTimeout = omega arith

shown-columns : (o : Option Parameter) → OfOk AreColumns (shown o)
shown-columns None = tt
shown-columns (Some p) = (omega arith, (name-short p, tt))

pub selected-columns : (columns cs : List Text) → AreColumns (Some columns) → AreColumns (Some cs) → AreColumns (Some (selected columns cs))
selected-columns columns [] h k = h
selected-columns columns (c ∷ cs) h k = k

choose-ok : {A : Type 0} (P : A → Type 0) (b : Bool) (x : A) (c : Cause) → P x → OfOk P (if b then Ok x else Err c)
choose-ok P true x c h = h
choose-ok P false x c h = tt

bound-columns : {A : Type 0} (P : A → Type 0) (r : Result A Cause) (f : A → Result Columns Cause) → OfOk P r → ((x : A) → P x → OfOk AreColumns (f x)) → OfOk AreColumns (bound r f)
bound-columns P (Ok x) f h g = g x h
bound-columns P (Err c) f h g = tt

cursor-columns : (o : Option CursorOf) → OfSome IsCursor o → OfOk AreColumns (look_up_cursor o)
cursor-columns None h = tt
cursor-columns (Some c) h = h.columns

module _ (cat : CatalogueOf) (lawful_tables : AllByRecursion IsTable cat.tables) where
  pub read-table : (s : State) (t : Text) → Lawful s → OfOk IsTable (to_read cat s t)
  read-table s t h = found-ok IsTable NoTable (readable cat s t) (or_else-some IsTable (named table_name s.tables t) (named table_name cat.tables t) (all-find IsTable (is_named table_name t) s.tables h.tables) (all-find IsTable (is_named table_name t) cat.tables lawful_tables))

  pub look_up-columns : (s : State) (x : Statement) → Lawful s → IsRead x → OfOk AreColumns (look_up cat s x)
  look_up-columns s st.Empty h k = tt
  look_up-columns s st.Begin h k = tt
  look_up-columns s st.Commit h k = tt
  look_up-columns s st.Rollback h k = tt
  look_up-columns s (st.Set n v) h k = tt
  look_up-columns s (st.SetLocal n v) h k = tt
  look_up-columns s (st.Declare c cs t w) h k = bound-columns Any (look_up_rows cat s cs t w) _ (any (look_up_rows cat s cs t w)) (λ x g. tt)
  look_up-columns s (st.Fetch n c) h k = cursor-columns (named cursor_name s.cursors c) (all-find IsCursor (is_named cursor_name c) s.cursors h.cursors)
  look_up-columns s (st.CloseCursor c) h k = tt
  look_up-columns s (st.Reset n) h k = tt
  look_up-columns s st.ResetAll h k = tt
  look_up-columns s (st.Show n) h k = shown-columns (parameter_named n)
  look_up-columns s st.DiscardAll h k = tt
  look_up-columns s (st.Create t cs) h k = tt
  look_up-columns s (st.Drop t) h k = bound-columns Any (to_change cat s t) _ (any (to_change cat s t)) (λ x g. tt)
  look_up-columns s (st.Insert t vs) h k = bound-columns Any (to_change cat s t) (λ x. look_up_insert x vs) (any (to_change cat s t)) (λ x g. choose-ok AreColumns (nat_le (length vs) (length x.columns)) None Syntax tt)
  look_up-columns s (st.Select cs t w) h k = bound-columns IsTable (to_read cat s t) (λ x. look_up_select x.columns cs w) (read-table s t h) (λ x g. choose-ok AreColumns (has_all x.columns cs && has_filter x.columns w) (Some (selected x.columns cs)) NoColumn (selected-columns x.columns cs (g.width, g.names) (k.0, k.1)))

-- ---- rows

or_null-value : (o : Option (Option Text)) → OfSome IsValue o → IsValue (or_null o)
or_null-value None h = tt
or_null-value (Some v) h = h

get-some : (r : Row) (i : ℕ) → AllByRecursion IsValue r → OfSome IsValue (slice_get r i)
get-some [] i h = tt
get-some (v ∷ r) zero h = h.0
get-some (v ∷ r) (suc i) h = get-some r i h.1

cell-value : (r : Row) (i : ℕ) → AllByRecursion IsValue r → IsValue (cell_at r i)
cell-value r i h = or_null-value (slice_get r i) (get-some r i h)

place-value : (r : Row) (o : Option ℕ) → AllByRecursion IsValue r → IsValue (cell r o)
place-value r None h = tt
place-value r (Some i) h = cell-value r i h

map-length : {A B : Type 0} (f : A → B) (xs : List A) → length (map f xs) ≡ length xs
map-length f [] = refl
map-length f (x ∷ xs) = ap suc (map-length f xs)

picked-row : (places : List (Option ℕ)) (r : Row) → length places ≤ 64 → IsRow r → IsRow (picked places r)
picked-row places r l h = (omega (arith, map-length (cell r) places), all-map Any IsValue (cell r) (λ o u. place-value r o h.1) places (all-each Any (λ o. tt) places))

pub rows-sent : (given : Row) (w : Option Equals) (cs : List Text) (t : TableOf) → IsTable t → length cs ≤ 64 × AllByRecursion (IsShort 63) cs → AllByRecursion IsSendable (rows_from given w cs t)
rows-sent given w cs t h k =
    let s : length (selected t.columns cs) ≤ 64 = (selected-columns t.columns cs (h.width, h.names) k).0 in
    let l : length (places_of t.columns cs) ≤ 64 = omega (arith, map-length (column_of t.columns) (selected t.columns cs)) in
    let c = condition_of given t.columns w in
    all-map IsRow IsSendable (picked (places_of t.columns cs)) (λ r g. row-sendable (picked (places_of t.columns cs) r) (picked-row (places_of t.columns cs) r l g)) (filter (meets c) t.rows) (all-filter IsRow (meets c) t.rows h.rows)

longest-fits : (p : Parameter) → longest p ≤ 2147483637
longest-fits ApplicationName = omega arith
longest-fits ClientEncoding = omega arith
longest-fits DateStyle = omega arith
longest-fits IntegerDatetimes = omega arith
longest-fits IntervalStyle = omega arith
longest-fits ServerEncoding = omega arith
longest-fits ServerVersion = omega arith
longest-fits StandardConformingStrings = omega arith
longest-fits TimeZone = omega arith
longest-fits ExtraFloatDigits = omega arith
longest-fits SearchPath = omega arith
longest-fits StatementTimeout = omega arith

pub shown-sent : (vs : Values) (p : Parameter) → AreSettings vs → AllByRecursion IsSendable ((Some (value_of vs p) ∷ []) ∷ [])
shown-sent vs p h = (one-sendable (value_of vs p) (omega (arith, longest-fits p, (value-setting vs p h).1)), tt)

-- rows and what is sent after them
pub rows-plain : (rows : List Row) (last : FrameOf) → AllByRecursion IsSendable rows → IsPlain last → AllByRecursion IsPlain (map data_row rows ++ last ∷ [])
rows-plain rows last h k = all-append IsPlain (map data_row rows) (last ∷ []) (all-map IsSendable IsPlain data_row row-plain rows h) (k, tt)

pub row_tag-plain : (x : Statement) (n : ℕ) → IsPlain (command_complete (row_tag x n))
row_tag-plain x n = tag-plain (row_tag x n) (row_tag-short x)
  where
    counted : length (codes "SELECT " ++ decimal n) ≤ 100
    counted = omega (arith, decimal-length n)

    fetched : length (codes "FETCH " ++ decimal n) ≤ 100
    fetched = omega (arith, decimal-length n)

    row_tag-short : (y : Statement) → length (row_tag y n) ≤ 100
    row_tag-short (st.Show m) = omega arith
    row_tag-short (st.Fetch m c) = fetched
    row_tag-short (st.SetLocal m v) = counted
    row_tag-short (st.Declare c cs t w) = counted
    row_tag-short (st.CloseCursor c) = counted
    row_tag-short st.Empty = counted
    row_tag-short st.Begin = counted
    row_tag-short st.Commit = counted
    row_tag-short st.Rollback = counted
    row_tag-short (st.Set m v) = counted
    row_tag-short (st.Reset m) = counted
    row_tag-short st.ResetAll = counted
    row_tag-short st.DiscardAll = counted
    row_tag-short (st.Create t cs) = counted
    row_tag-short (st.Drop t) = counted
    row_tag-short (st.Insert t vs) = counted
    row_tag-short (st.Select cs t w) = counted

-- ---- what is sent of a run

pub given-plain : (x : Statement) (o : Outcome) → IsOutcome o → AllByRecursion IsPlain (given_frames x o)
given-plain x runs.Nothing h = ((omega arith, refl), tt)
given-plain x (runs.Done tag) h = (tag-plain tag h, tt)
given-plain x (runs.Rows rows) h = rows-plain rows (command_complete (row_tag x (length rows))) h (row_tag-plain x (length rows))

pub heading-plain : (cs : Columns) → AreColumns cs → AllByRecursion IsPlain (heading cs)
heading-plain None h = tt
heading-plain (Some cs) h = (columns-plain cs (formats_of cs []) h.0 h.1, tt)
