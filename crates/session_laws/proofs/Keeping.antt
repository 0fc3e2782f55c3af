-- Every handler keeps a lawful session lawful, and its reported values as they are; it replies plain frames.
use Rattle.std.proofs.Common.{length-append}
use Rattle.session_values.specs.declared.cause.Cause.TheVariants.{Aborted}
use Rattle.std.proofs.Common.{◌≡◌, ℕ, zero, suc, ◌≤◌, List, [], ◌∷◌, ◌++◌, length, take, drop, map, Option, Some, None, Result, Ok, Err, refl, ap, ◌∙◌, Bool, true, false, ◌&&◌, arith, leb-true}
use Rattle.std.specs.Prelude.{not, nat_le, nat_lt, if◌then◌else◌, codes}
use Rattle.std.specs.List.{AllByRecursion, position_from}
use Rattle.frame_view.specs.Frames.{FrameOf}
use Rattle.message_view.specs.Bodies.{Parse, Bind, Target, OfStatement, OfPortal}
use Rattle.message_view.specs.Messages.{command_complete, portal_suspended}
use Rattle.mini_sql.specs.Words.{Text, same_text}
use Rattle.mini_sql.specs.Statements as st
use Rattle.mini_sql.specs.Statements.{Statement, Equals, Operand, statement, parameters_of}
use Rattle.session_values.specs.declared.block.Block.{Block}
use Rattle.session_values.specs.declared.block.Block.TheVariants.{Outside, Inside, Failed}
use Rattle.session_values.specs.declared.cause.Cause.{Cause}
use Rattle.session_values.specs.declared.cause.Cause.TheVariants.{NoPlaceholder, PortalExists, StatementExists, NoStatement, NoPortal, MalformedMessage, ColumnTwice, InvalidValue}
use Rattle.session_values.specs.declared.parameter.Parameter.{Parameter}
use Rattle.session_values.specs.Parameters.{Values, parameters, parameter_named}
use Rattle.session_values.specs.Errors.{already_in_transaction, no_transaction}
use Rattle.session_values.specs.Named.{named, without, is_named, is_other, set_at}
use Rattle.session_values.specs.State.{State, CatalogueOf, TableOf, table_name, Row, SavedOf, PreparedOf, prepared_name, portal_name, PortalOf, ProgressOf, NotRun, Remaining, Finished, CursorOf, cursor_name, held, is_held, Answer, answers, bound, set_parameter, roll_back, restored, commit}
use Rattle.session_values.specs.Lookups.{Columns, look_up, found, to_read}
use Rattle.session_values.specs.Runs as runs
use Rattle.session_values.specs.Runs.{Ran, Outcome, ran, run, begin_run, commit_run, rollback_run, discard_run, create_run, insert_run, set_run, set_current, set_local_run, show_run, select_run, opened, declare_run, fetched, unfetched, fetch_run, close_run, reset_from, row_tag, given_frames, are_distinct, fits, all_fit, padded, with_row, operand_value, with_table, insert_into}
use Rattle.session_values.specs.Extended.{values_fault, unless_some, parse, bind, bindable, prepared_of, with_statement, without_statement, portal_to, with_portal, orphaned, describe, described, is_describable, is_result_count, parameter_count, oid_at, oids_of, Described, close, is_of_other, execute, execute_on, execute_rows, execute_outcome, execute_ran, sent_rows, progressed, at_progress, description, formats_of, is_limit, usable, reading, unless, is_taken, is_there}
use Rattle.session_values.specs.Lawful.{IsShort, IsValue}
use Rattle.session_values.proofs.Alls.{OfSome, all-append, all-map, all-filter, all-find, all-set, all-take, all-drop, and-first, and-second}
use Rattle.session_laws.proofs.GoodValues.{AreSettings, IsGiven, OfOk, set-settings, reset-settings}
use Rattle.session_laws.proofs.Spelled.{few-parameters}
use Rattle.session_values.specs.Step.{query, query_ran, heading, without_unnamed}
use Rattle.session_laws.proofs.Handling.{StaysLawful, AllKept, IsOutcome, IsRan, RanKept, kept, made, bound-kept, Any, any, found-ok, IsRead, reading-read, usable-read, look_up-columns, read-table, selected-columns, rows-sent, shown-sent, rows-plain, row_tag-plain, given-plain, heading-plain}
use Rattle.session_laws.proofs.Lawful.{IsPlain, IsSendable, IsRow, IsTable, IsSource, AreLeft, IsPrepared, IsPortal, IsCursor, IsSaved, Lawful, AreColumns, columns-plain, oids-plain}

-- ---- runs

choose-ran : (s : State) (b : Bool) (r q : Result Ran Cause) → (b ≡ true → RanKept s r) → RanKept s q → RanKept s (if b then r else q)
choose-ran s true r q h k = h refl
choose-ran s false r q h k = k

-- a tag of so few bytes, no notice, and the same reported values
ran-kept : (s after : State) (tag : Text) → Lawful after → after.reported ≡ s.reported → length tag ≤ 100 → RanKept s (ran after [] tag)
ran-kept s after tag l r t = (kept s after [] l r tt, t)

warned-plain : IsPlain already_in_transaction
warned-plain = (omega arith, refl)

unwarned-plain : IsPlain no_transaction
unwarned-plain = (omega arith, refl)

pub block-lawful : (s : State) (b : Block) → Lawful s → Lawful (record s { block = b })
block-lawful s b h = made _ h.defaults h.current h.reported h.saved h.statements h.portals h.tables h.lasting h.cursors

held-cursor : (c : CursorOf) → IsCursor c → IsCursor (held c)
held-cursor c h = record { columns = h.columns; left = h.left }

pub commit-lawful : (s : State) → Lawful s → Lawful (commit s)
commit-lawful s h = made _ h.defaults h.lasting h.reported tt h.statements tt h.tables h.lasting (all-map IsCursor IsCursor held held-cursor s.cursors h.cursors)

restored-lawful : (s : State) (c : Option SavedOf) → Lawful s → IsSaved c → Lawful (restored s c)
restored-lawful s None h k = h
restored-lawful s (Some c) h k = made _ h.defaults k.0 h.reported h.saved h.statements h.portals k.1 h.lasting h.cursors

pub roll_back-lawful : (s : State) → Lawful s → Lawful (roll_back s)
roll_back-lawful s h = let g = restored-lawful s s.saved h h.saved in made _ g.defaults g.current g.reported tt g.statements tt g.tables g.current (all-filter IsCursor is_held s.cursors h.cursors)

pub roll_back-reported : (s : State) (c : Option SavedOf) → (restored s c).reported ≡ s.reported
roll_back-reported s None = refl
roll_back-reported s (Some c) = refl

begin-kept : (s : State) (b : Block) → Lawful s → RanKept s (begin_run s b)
begin-kept s Outside h = ran-kept s _ (codes "BEGIN") (block-lawful s Inside h) refl (omega arith)
begin-kept s Inside h = (kept s s _ h refl (warned-plain, tt), omega arith)
begin-kept s Failed h = ran-kept s _ (codes "BEGIN") h refl (omega arith)

commit-kept : (s : State) (b : Block) → Lawful s → RanKept s (commit_run s b)
commit-kept s Outside h = (kept s _ _ (commit-lawful s h) refl (unwarned-plain, tt), omega arith)
commit-kept s Inside h = ran-kept s _ (codes "COMMIT") (block-lawful (commit s) Outside (commit-lawful s h)) refl (omega arith)
commit-kept s Failed h = ran-kept s _ (codes "ROLLBACK") (block-lawful s Outside h) refl (omega arith)

rollback-kept : (s : State) (b : Block) → Lawful s → RanKept s (rollback_run s b)
rollback-kept s Outside h = (kept s _ _ (roll_back-lawful s h) (roll_back-reported s s.saved) (unwarned-plain, tt), omega arith)
rollback-kept s Inside h = ran-kept s _ (codes "ROLLBACK") (block-lawful (roll_back s) Outside (roll_back-lawful s h)) (roll_back-reported s s.saved) (omega arith)
rollback-kept s Failed h = ran-kept s _ (codes "ROLLBACK") (block-lawful (roll_back s) Outside (roll_back-lawful s h)) (roll_back-reported s s.saved) (omega arith)

with_current-lawful : (s : State) (vs : Values) → Lawful s → AreSettings vs → Lawful (record s { current = vs })
with_current-lawful s vs h k = made _ h.defaults k h.reported h.saved h.statements h.portals h.tables h.lasting h.cursors

with_values-lawful : (s : State) (vs ls : Values) → Lawful s → AreSettings vs → AreSettings ls → Lawful (record s { current = vs; lasting = ls })
with_values-lawful s vs ls h k l = made _ h.defaults k h.reported h.saved h.statements h.portals h.tables l h.cursors

set-kept : (s : State) (tag : Text) (r q : Result Values Cause) → Lawful s → length tag ≤ 100 → OfOk AreSettings r → OfOk AreSettings q → RanKept s (set_run s tag r q)
set-kept s tag (Ok vs) (Ok ls) h l k i = ran-kept s (record s { current = vs; lasting = ls }) tag (with_values-lawful s vs ls h k i) refl l
set-kept s tag (Ok vs) (Err c) h l k i = tt
set-kept s tag (Err c) q h l k i = tt

current-kept : (s : State) (r : Result Values Cause) → Lawful s → OfOk AreSettings r → RanKept s (set_current s r)
current-kept s (Ok vs) h k = ran-kept s (record s { current = vs }) (codes "SET") (with_current-lawful s vs h k) refl (omega arith)
current-kept s (Err c) h k = tt

local-kept : (s : State) (b : Block) (r : Result Values Cause) → Lawful s → OfOk AreSettings r → RanKept s (set_local_run s b r)
local-kept s Outside r h k = (kept s s _ h refl (unwarned-plain, tt), omega arith)
local-kept s Inside r h k = current-kept s r h k
local-kept s Failed r h k = current-kept s r h k

discard-kept : (s : State) (b : Block) → Lawful s → RanKept s (discard_run s b)
discard-kept s Outside h = ran-kept s _ (codes "DISCARD ALL") (made _ h.defaults h.defaults h.reported tt tt tt tt h.defaults tt) refl (omega arith)
discard-kept s Inside h = tt
discard-kept s Failed h = tt

with_tables-lawful : (s : State) (ts : List TableOf) → Lawful s → AllByRecursion IsTable ts → Lawful (record s { tables = ts })
with_tables-lawful s ts h k = made _ h.defaults h.current h.reported h.saved h.statements h.portals k h.lasting h.cursors

with_cursors-lawful : (s : State) (cs : List CursorOf) → Lawful s → AllByRecursion IsCursor cs → Lawful (record s { cursors = cs })
with_cursors-lawful s cs h k = made _ h.defaults h.current h.reported h.saved h.statements h.portals h.tables h.lasting k

create-kept : (s : State) (t : Text) (cs : List Text) (o : Option TableOf) → Lawful s → length cs ≤ 64 × AllByRecursion (IsShort 63) cs → RanKept s (create_run s t cs o)
create-kept s t cs (Some there) h k = tt
create-kept s t cs None h k = choose-ran s (are_distinct cs) (ran (with_table s t cs) [] (codes "CREATE TABLE")) (Err ColumnTwice)
    (λ d. ran-kept s (with_table s t cs) (codes "CREATE TABLE") (with_tables-lawful s _ h (all-append IsTable s.tables _ h.tables (record { width = k.0; names = k.1; rows = tt }, tt))) refl (omega arith)) tt

fits-value : (v : Option Text) → fits v ≡ true → IsValue v
fits-value None h = tt
fits-value (Some t) h = leb-true (length t) 1048576 h

fit-values : (r : Row) → all_fit r ≡ true → AllByRecursion IsValue r
fit-values [] h = tt
fit-values (v ∷ r) h = (fits-value v (and-first (fits v) (all_fit r) h), fit-values r (and-second (fits v) (all_fit r) h))

padded-row : (cs : List Text) (r : Row) → AllByRecursion IsValue r → (length (padded cs r) ≡ length cs) × AllByRecursion IsValue (padded cs r)
padded-row [] r h = (refl, tt)
padded-row (c ∷ cs) [] h = let ih = padded-row cs [] tt in (ap suc ih.0, (tt, ih.1))
padded-row (c ∷ cs) (v ∷ r) h = let ih = padded-row cs r h.1 in (ap suc ih.0, (h.0, ih.1))

with_row-table : (t : TableOf) (r : Row) → IsTable t → AllByRecursion IsValue r → IsTable (with_row r t)
with_row-table t r h k =
    let p = padded-row t.columns r k in
    let w : length (padded t.columns r) ≤ 64 = omega (arith, p.0, h.width) in
    record { width = h.width; names = h.names; rows = all-append IsRow t.rows (padded t.columns r ∷ []) h.rows ((w, p.1), tt) }

set_at-tables : (o : Option ℕ) (ts : List TableOf) (t : TableOf) → AllByRecursion IsTable ts → IsTable t → AllByRecursion IsTable (set_at o ts t)
set_at-tables None ts t h k = h
set_at-tables (Some p) ts t h k = all-set IsTable ts p t h k

insert_into-kept : (s : State) (o : Option TableOf) (r : Row) → Lawful s → OfSome IsTable o → AllByRecursion IsValue r → RanKept s (ran (insert_into s o r) [] (codes "INSERT 0 1"))
insert_into-kept s None r h k v = ran-kept s s (codes "INSERT 0 1") h refl (omega arith)
insert_into-kept s (Some t) r h k v = ran-kept s _ (codes "INSERT 0 1") (with_tables-lawful s _ h (set_at-tables (position_from (is_named table_name (table_name (with_row r t))) 0 s.tables) s.tables (with_row r t) h.tables (with_row-table t r k v))) refl (omega arith)

insert-kept : (s : State) (t : Text) (r : Row) → Lawful s → RanKept s (insert_run s t r)
insert-kept s t r h = choose-ran s (all_fit r) (ran (insert_into s (named table_name s.tables t) r) [] (codes "INSERT 0 1")) (Err InvalidValue)
    (λ f. insert_into-kept s (named table_name s.tables t) r h (all-find IsTable (is_named table_name t) s.tables h.tables) (fit-values r f)) tt

set-given : (n : Text) (v : Option Text) → IsRead (st.Set n v) → OfSome IsGiven v
set-given n None h = tt
set-given n (Some t) h = (h.0, omega (arith, h.1))

show-kept : (s : State) (o : Option Parameter) → Lawful s → RanKept s (show_run s o)
show-kept s None h = tt
show-kept s (Some p) h = (kept s s [] h refl tt, shown-sent s.current p h.current)

select-kept : (s : State) (given : Row) (w : Option Equals) (cs : List Text) (r : Result TableOf Cause) → Lawful s → OfOk IsTable r → length cs ≤ 64 × AllByRecursion (IsShort 63) cs → RanKept s (select_run s given w cs r)
select-kept s given w cs (Ok t) h g k = (kept s s [] h refl tt, rows-sent given w cs t g k)
select-kept s given w cs (Err c) h g k = tt

local-given : (n : Text) (v : Option Text) → IsRead (st.SetLocal n v) → OfSome IsGiven v
local-given n None h = tt
local-given n (Some t) h = (h.0, omega (arith, h.1))

opened-kept : (s : State) (c : Text) (cs : List Text) (w : Option Equals) (r : Result TableOf Cause) → Lawful s → OfOk IsTable r → length cs ≤ 64 × AllByRecursion (IsShort 63) cs → RanKept s (opened s c cs w r)
opened-kept s c cs w (Ok t) h g k =
    ran-kept s _ (codes "DECLARE CURSOR") (with_cursors-lawful s _ h (all-append IsCursor s.cursors _ h.cursors (record { columns = selected-columns t.columns cs (g.width, g.names) k; left = rows-sent [] w cs t g k }, tt))) refl (omega arith)
opened-kept s c cs w (Err e) h g k = tt

declare-kept : (s : State) (c : Text) (cs : List Text) (w : Option Equals) (r : Result TableOf Cause) (o : Option CursorOf) → Lawful s → OfOk IsTable r → length cs ≤ 64 × AllByRecursion (IsShort 63) cs → RanKept s (declare_run s c cs w r o)
declare-kept s c cs w r (Some there) h g k = tt
declare-kept s c cs w r None h g k = opened-kept s c cs w r h g k

fetched-sent : (n : Option ℕ) (rows : List Row) → AllByRecursion IsSendable rows → AllByRecursion IsSendable (fetched n rows) × AllByRecursion IsSendable (unfetched n rows)
fetched-sent None rows h = (h, tt)
fetched-sent (Some n) rows h = (all-take IsSendable n rows h, all-drop IsSendable n rows h)

set_at-cursors : (o : Option ℕ) (cs : List CursorOf) (c : CursorOf) → AllByRecursion IsCursor cs → IsCursor c → AllByRecursion IsCursor (set_at o cs c)
set_at-cursors None cs c h k = h
set_at-cursors (Some p) cs c h k = all-set IsCursor cs p c h k

fetch-kept : (s : State) (n : Option ℕ) (o : Option CursorOf) → Lawful s → OfSome IsCursor o → RanKept s (fetch_run s n o)
fetch-kept s n None h k = tt
fetch-kept s n (Some c) h k =
    let parts = fetched-sent n c.rows k.left in
    let moved : CursorOf = record c { rows = unfetched n c.rows } in
    (kept s _ [] (with_cursors-lawful s _ h (set_at-cursors (position_from (is_named cursor_name (cursor_name moved)) 0 s.cursors) s.cursors moved h.cursors (record { columns = k.columns; left = parts.1 }))) refl tt, parts.0)

close_run-kept : (s : State) (c : Text) (o : Option CursorOf) → Lawful s → RanKept s (close_run s c o)
close_run-kept s c None h = tt
close_run-kept s c (Some there) h = ran-kept s _ (codes "CLOSE CURSOR") (with_cursors-lawful s _ h (all-filter IsCursor (is_other cursor_name c) s.cursors h.cursors)) refl (omega arith)

module _ (cat : CatalogueOf) (lawful_tables : AllByRecursion IsTable cat.tables) where
  pub run-kept : (s : State) (given : Row) (x : Statement) → Lawful s → IsRead x → RanKept s (run cat s given x)
  run-kept s given st.Empty h k = (kept s s [] h refl tt, tt)
  run-kept s given st.Begin h k = begin-kept s s.block h
  run-kept s given st.Commit h k = commit-kept s s.block h
  run-kept s given st.Rollback h k = rollback-kept s s.block h
  run-kept s given (st.Set n v) h k = set-kept s (codes "SET") (set_parameter s.defaults s.current n v) (set_parameter s.defaults s.lasting n v) h (omega arith) (set-settings s.defaults s.current n v h.defaults h.current (set-given n v k)) (set-settings s.defaults s.lasting n v h.defaults h.lasting (set-given n v k))
  run-kept s given (st.SetLocal n v) h k = local-kept s s.block (set_parameter s.defaults s.current n v) h (set-settings s.defaults s.current n v h.defaults h.current (local-given n v k))
  run-kept s given (st.Reset n) h k = set-kept s (codes "RESET") (set_parameter s.defaults s.current n None) (set_parameter s.defaults s.lasting n None) h (omega arith) (set-settings s.defaults s.current n None h.defaults h.current tt) (set-settings s.defaults s.lasting n None h.defaults h.lasting tt)
  run-kept s given st.ResetAll h k = set-kept s (codes "RESET") (Ok (reset_from parameters s.current s.defaults)) (Ok (reset_from parameters s.lasting s.defaults)) h (omega arith) (reset-settings s.current s.defaults h.current h.defaults) (reset-settings s.lasting s.defaults h.lasting h.defaults)
  run-kept s given (st.Show n) h k = show-kept s (parameter_named n) h
  run-kept s given st.DiscardAll h k = discard-kept s s.block h
  run-kept s given (st.Create t cs) h k = create-kept s t cs (named table_name s.tables t) h k
  run-kept s given (st.Drop t) h k = ran-kept s _ (codes "DROP TABLE") (with_tables-lawful s _ h (all-filter IsTable (is_other table_name t) s.tables h.tables)) refl (omega arith)
  run-kept s given (st.Insert t vs) h k = insert-kept s t (map (operand_value given) vs) h
  run-kept s given (st.Select cs t w) h k = select-kept s given w cs (to_read cat s t) h (read-table cat lawful_tables s t h) (k.0, k.1)
  run-kept s given (st.Declare c cs t w) h k = declare-kept s c cs w (to_read cat s t) (named cursor_name s.cursors c) h (read-table cat lawful_tables s t h) k
  run-kept s given (st.Fetch n c) h k = fetch-kept s n (named cursor_name s.cursors c) h (all-find IsCursor (is_named cursor_name c) s.cursors h.cursors)
  run-kept s given (st.CloseCursor c) h k = close_run-kept s c (named cursor_name s.cursors c) h

-- ---- queries

query_ran-kept : (s : State) (x : Statement) (cs : Columns) (r : Ran) → AreColumns cs → IsRan s r → AllKept s (Ok (query_ran x cs r))
query_ran-kept s x cs r c h = kept s r.after _ h.0.lawful h.0.reported (all-append IsPlain (r.notices ++ heading cs) (given_frames x r.outcome) (all-append IsPlain r.notices (heading cs) h.0.plain (heading-plain cs c)) (given-plain x r.outcome h.1))

-- ---- statements and portals

orphaned-portal : (n : Text) (p : PortalOf) → IsPortal p → IsPortal (orphaned n p)
orphaned-portal n p h = record { source = h.source; left = h.left }

pub without_statement-lawful : (s : State) (n : Text) → Lawful s → Lawful (without_statement s n)
without_statement-lawful s n h = made _ h.defaults h.current h.reported h.saved (all-filter IsPrepared (is_other prepared_name n) s.statements h.statements) (all-map IsPortal IsPortal (orphaned n) (orphaned-portal n) s.portals h.portals) h.tables h.lasting h.cursors

with_portals-lawful : (s : State) (ps : List PortalOf) → Lawful s → AllByRecursion IsPortal ps → Lawful (record s { portals = ps })
with_portals-lawful s ps h k = made _ h.defaults h.current h.reported h.saved h.statements k h.tables h.lasting h.cursors

pub without_unnamed-lawful : (s : State) → Lawful s → Lawful (without_unnamed s)
without_unnamed-lawful s h =
    let g = without_statement-lawful s [] h in
    with_portals-lawful (without_statement s []) _ g (all-filter IsPortal (is_other portal_name []) (without_statement s []).portals g.portals)

prepared-lawful : (s : State) (p : Parse) → Lawful s → IsSource p.query → length p.oids ≤ 65535 → Lawful (with_statement (without_statement s p.name) (prepared_of p))
prepared-lawful s p h k o =
    let g = without_statement-lawful s p.name h in
    made _ g.defaults g.current g.reported g.saved (all-append IsPrepared (without_statement s p.name).statements (prepared_of p ∷ []) g.statements (record { source = k; few = o }, tt)) g.portals g.tables g.lasting g.cursors

portal-lawful : (s : State) (b : Bind) (p : PreparedOf) → Lawful s → IsPrepared p → Lawful (with_portal s (portal_to b p))
portal-lawful s b p h k = with_portals-lawful s _ h (all-append IsPortal (without portal_name s.portals b.portal) (portal_to b p ∷ []) (all-filter IsPortal (is_other portal_name b.portal) s.portals h.portals) (record { source = k.source; left = tt }, tt))

bound-ok : {A B : Type 0} (P : A → Type 0) (Q : B → Type 0) (r : Result A Cause) (f : A → Result B Cause) → OfOk P r → ((x : A) → P x → OfOk Q (f x)) → OfOk Q (bound r f)
bound-ok P Q (Ok x) f h g = g x h
bound-ok P Q (Err c) f h g = tt

past : {B : Type 0} (Q : B → Type 0) (b : Bool) (c : Cause) (r : Result B Cause) → OfOk Q r → OfOk Q (bound (unless b c) (λ u. r))
past Q true c r h = tt
past Q false c r h = h

past-some : {B : Type 0} (Q : B → Type 0) (o : Option Cause) (r : Result B Cause) → OfOk Q r → OfOk Q (bound (unless_some o) (λ u. r))
past-some Q (Some c) r h = tt
past-some Q None r h = h

bindable-prepared : (cat : CatalogueOf) (s : State) (b : Bind) → Lawful s → OfOk IsPrepared (bindable cat s b)
bindable-prepared cat s b h =
    bound-ok IsPrepared IsPrepared (found NoStatement (named prepared_name s.statements b.statement)) _ (found-ok IsPrepared NoStatement (named prepared_name s.statements b.statement) (all-find IsPrepared (is_named prepared_name b.statement) s.statements h.statements)) (λ p g.
    bound-ok Any IsPrepared (usable s p.query) _ (any _) (λ x u.
    past IsPrepared (is_taken b.portal (is_there (named portal_name s.portals b.portal))) PortalExists _ (
    past-some IsPrepared (values_fault b p x) _ (
    bound-ok Any IsPrepared (look_up cat s x) _ (any _) (λ d k.
    past IsPrepared (not (is_result_count (length b.results) d)) MalformedMessage (Ok p) g)))))

-- a statement's parameters are few, and its columns short
abbrev IsDescribed : Described → Type 0
IsDescribed d = parameters_of d.it ≤ 99 × AreColumns d.columns

description-plain : (fs : List ℕ) (cs : Columns) → AreColumns cs → IsPlain (description fs cs)
description-plain fs None h = (omega arith, refl)
description-plain fs (Some cs) h = columns-plain cs (formats_of cs fs) h.0 h.1

oids_of-length : (n : ℕ) (os : List ℕ) → length (oids_of n os) ≡ n
oids_of-length zero os = refl
oids_of-length (suc n) os = length-append (oids_of n os) (oid_at os n ∷ []) ∙ omega (arith, oids_of-length n os)

oids_of-few : (n : ℕ) (os : List ℕ) → n ≤ 65535 → length (oids_of n os) ≤ 65535
oids_of-few n os h = omega (arith, oids_of-length n os)

choose-kept : (s : State) (b : Bool) (a : Answer) (c : Cause) → StaysLawful s a.next a.replies → AllKept s (if b then Ok a else Err c)
choose-kept s true a c h = h
choose-kept s false a c h = tt

pub close-kept : (s : State) (t : Target) → Lawful s → StaysLawful s (close s t).next (close s t).replies
close-kept s (OfStatement n) h = kept s _ _ (made _ h.defaults h.current h.reported h.saved (all-filter IsPrepared (is_other prepared_name n) s.statements h.statements) (all-filter IsPortal (is_of_other n) s.portals h.portals) h.tables h.lasting h.cursors) refl ((omega arith, refl), tt)
close-kept s (OfPortal n) h = kept s _ _ (with_portals-lawful s _ h (all-filter IsPortal (is_other portal_name n) s.portals h.portals)) refl ((omega arith, refl), tt)

-- ---- Execute

at_progress-portal : (n : Text) (g : ProgressOf) → AreLeft g → (p : PortalOf) → IsPortal p → IsPortal (at_progress n g p)
at_progress-portal n g l p h = by_test (same_text p.name n)
  where
    by_test : (b : Bool) → IsPortal (if b then record p { progress = g } else p)
    by_test true = record { source = h.source; left = l }
    by_test false = h

progressed-lawful : (s : State) (n : Text) (g : ProgressOf) → Lawful s → AreLeft g → Lawful (progressed s n g)
progressed-lawful s n g h l = with_portals-lawful s _ h (all-map IsPortal IsPortal (at_progress n g) (at_progress-portal n g l) s.portals h.portals)

sent-kept : (s : State) (n : Text) (now later : List Row) (last : FrameOf) → Lawful s → AllByRecursion IsSendable now → AllByRecursion IsSendable later → IsPlain last → AllKept s (Ok (sent_rows s n now later last))
sent-kept s n now later last h a b k = kept s _ _ (progressed-lawful s n (Remaining later) h b) refl (rows-plain now last a k)

execute_rows-kept : (s : State) (n : Text) (x : Statement) (limit : ℕ) (rows : List Row) → Lawful s → AllByRecursion IsSendable rows → AllKept s (Ok (execute_rows s n x limit rows))
execute_rows-kept s n x limit rows h k = by_test (is_limit limit && nat_le limit (length rows))
  where
    by_test : (b : Bool) → AllKept s (Ok (if b then sent_rows s n (take limit rows) (drop limit rows) portal_suspended else sent_rows s n rows [] (command_complete (row_tag x (length rows)))))
    by_test true = sent-kept s n (take limit rows) (drop limit rows) portal_suspended h (all-take IsSendable limit rows k) (all-drop IsSendable limit rows k) (omega arith, refl)
    by_test false = sent-kept s n rows [] (command_complete (row_tag x (length rows))) h k tt (row_tag-plain x (length rows))

execute_outcome-kept : (s : State) (n : Text) (x : Statement) (limit : ℕ) (o : Outcome) → Lawful s → IsOutcome o → AllKept s (Ok (execute_outcome s n x limit o))
execute_outcome-kept s n x limit (runs.Rows rows) h k = execute_rows-kept s n x limit rows h k
execute_outcome-kept s n x limit runs.Nothing h k = kept s _ _ (progressed-lawful s n Finished h tt) refl (given-plain x runs.Nothing k)
execute_outcome-kept s n x limit (runs.Done tag) h k = kept s _ _ (progressed-lawful s n Finished h tt) refl (given-plain x (runs.Done tag) k)

execute_ran-kept : (s : State) (n : Text) (x : Statement) (limit : ℕ) (r : Ran) → IsRan s r → AllKept s (Ok (execute_ran n x limit r))
execute_ran-kept s n x limit r h =
    let o = execute_outcome-kept r.after n x limit r.outcome h.0.lawful h.1 in
    kept s _ _ o.lawful (o.reported ∙ h.0.reported) (all-append IsPlain r.notices _ h.0.plain o.plain)

-- ---- with a catalogue

module _ (cat : CatalogueOf) (lawful_tables : AllByRecursion IsTable cat.tables) where
  pub query-kept : (s : State) (t : Text) → Lawful s → IsSource t → AllKept s (query cat s t)
  query-kept s t h k =
      bound-kept IsRead s (usable s t) _ (usable-read s t k) (λ x g.
      bound-kept Any s (unless (nat_lt 0 (parameters_of x)) NoPlaceholder) _ (any _) (λ u v.
      bound-kept AreColumns s (look_up cat s x) _ (look_up-columns cat lawful_tables s x h g) (λ cs c.
      bound-kept (IsRan s) s (run cat s [] x) _ (run-kept cat lawful_tables s [] x h g) (λ r k. query_ran-kept s x cs r c k))))

  -- ---- the extended query

  pub parse-kept : (s : State) (p : Parse) → Lawful s → IsSource p.query → length p.oids ≤ 65535 → AllKept s (parse cat s p)
  parse-kept s p h k o =
      bound-kept Any s (usable s p.query) _ (any _) (λ x g.
      bound-kept Any s (unless (is_taken p.name (is_there (named prepared_name s.statements p.name))) StatementExists) _ (any _) (λ u v.
      bound-kept Any s (look_up cat s x) _ (any _) (λ cs c.
      kept s _ _ (prepared-lawful s p h k o) refl ((omega arith, refl), tt))))

  pub bind-kept : (s : State) (b : Bind) → Lawful s → AllKept s (bind cat s b)
  bind-kept s b h = bound-kept IsPrepared s (bindable cat s b) _ (bindable-prepared cat s b h) (λ p g. kept s _ _ (portal-lawful s b p h g) refl ((omega arith, refl), tt))

  described-ok : (s : State) (t : Text) → Lawful s → IsSource t → OfOk IsDescribed (described cat s t)
  described-ok s t h k =
      bound-ok IsRead IsDescribed (reading t) _ (reading-read t k) (λ x g.
      bound-ok Any IsDescribed (unless (not (is_describable s.block x)) Aborted) _ (any _) (λ y u.
      bound-ok AreColumns IsDescribed (look_up cat s x) _ (look_up-columns cat lawful_tables s x h g) (λ cs c. (few-parameters 2147483642 x g, c))))

  pub describe-kept : (s : State) (t : Target) → Lawful s → AllKept s (describe cat s t)
  describe-kept s (OfStatement n) h =
      bound-kept IsPrepared s (found NoStatement (named prepared_name s.statements n)) _ (found-ok IsPrepared NoStatement (named prepared_name s.statements n) (all-find IsPrepared (is_named prepared_name n) s.statements h.statements)) (λ p g.
      bound-kept IsDescribed s (described cat s p.query) _ (described-ok s p.query h g.source) (λ d k.
      kept s s _ h refl (oids-plain (oids_of (parameter_count d.it p) p.oids) (oids_of-few (parameter_count d.it p) p.oids (omega (arith, k.0, g.few))), (description-plain [] d.columns k.1, tt))))
  describe-kept s (OfPortal n) h =
      bound-kept IsPortal s (found NoPortal (named portal_name s.portals n)) _ (found-ok IsPortal NoPortal (named portal_name s.portals n) (all-find IsPortal (is_named portal_name n) s.portals h.portals)) (λ p g.
      bound-kept IsDescribed s (described cat s p.query) _ (described-ok s p.query h g.source) (λ d k.
      choose-kept s (is_result_count (length p.formats) d.columns) (answers s (description p.formats d.columns ∷ [])) MalformedMessage (kept s s _ h refl (description-plain p.formats d.columns k.1, tt))))

  execute_on-kept : (s : State) (p : PortalOf) (limit : ℕ) (x : Statement) (g : ProgressOf) → Lawful s → IsRead x → AreLeft g → AllKept s (execute_on cat s p limit x g)
  execute_on-kept s p limit x NotRun h k l = bound-kept (IsRan s) s (run cat s p.given x) _ (run-kept cat lawful_tables s p.given x h k) (λ r g. execute_ran-kept s p.name x limit r g)
  execute_on-kept s p limit x (Remaining rows) h k l = execute_rows-kept s p.name x limit rows h l
  execute_on-kept s p limit x Finished h k l = tt

  pub execute-kept : (s : State) (n : Text) (limit : ℕ) → Lawful s → AllKept s (execute cat s n limit)
  execute-kept s n limit h =
      bound-kept IsPortal s (found NoPortal (named portal_name s.portals n)) _ (found-ok IsPortal NoPortal (named portal_name s.portals n) (all-find IsPortal (is_named portal_name n) s.portals h.portals)) (λ p g.
      bound-kept IsRead s (usable s p.query) _ (usable-read s p.query g.source) (λ x k.
      bound-kept Any s (look_up cat s x) _ (any _) (λ cs c. execute_on-kept s p limit x p.progress h k g.left)))
