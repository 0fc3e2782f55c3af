-- What every handler leaves: no ReadyForQuery among its replies, and the same defaults, skipping and end.
-- So a ReadyForQuery comes last and once, after a closing message.
use Rattle.std.proofs.Common.{◌≡◌, ℕ, List, [], ◌∷◌, ◌++◌, length, take, drop, map, filter, Option, Some, None, Result, Ok, Err, refl, subst, ◌∙◌, append_assoc, Bool, true, false}
use Rattle.std.specs.Prelude.{◌==◌, ◌||◌, ◌&&◌, nat_le, if◌then◌else◌, codes, cond}
use Rattle.std.specs.List.{list_all}
use Rattle.frame_view.specs.declared.client.TheConstants as client
use Rattle.frame_view.specs.declared.server.TheConstants.{READY_FOR_QUERY}
use Rattle.frame_view.specs.Frames.{FrameOf, is_closing}
use Rattle.message_view.specs.declared.ViewError.{ViewError}
use Rattle.message_view.specs.Bodies.{Parse, Bind, Target, OfStatement, OfPortal}
use Rattle.message_view.specs.Messages.{data_row, ready_for_query, parameter_status, command_complete, portal_suspended}
use Rattle.message_view.specs.Reading.{query_of, parse_of, bind_of, target_of, execute_of}
use Rattle.mini_sql.specs.Words.{Text, same_text}
use Rattle.mini_sql.specs.Statements as st
use Rattle.mini_sql.specs.Statements.{Statement, Equals}
use Rattle.session_values.specs.declared.block.Block.{Block}
use Rattle.session_values.specs.declared.block.Block.TheVariants.{Outside, Inside, Failed}
use Rattle.session_values.specs.declared.parameter.Parameter.{Parameter}
use Rattle.session_values.specs.declared.cause.Cause.{Cause}
use Rattle.session_values.specs.declared.cause.Cause.TheVariants.{NoStatement, NoPortal, MalformedMessage, NotSupported, ColumnTwice, InvalidValue, Cancelled}
use Rattle.session_values.specs.Parameters.{Values, reported_parameters, name, parameter_named}
use Rattle.session_values.specs.Errors.{error}
use Rattle.session_values.specs.Named.{named}
use Rattle.session_values.specs.State.{State, CatalogueOf, TableOf, table_name, Row, SavedOf, prepared_name, portal_name, PortalOf, ProgressOf, NotRun, Remaining, Finished, CursorOf, cursor_name, held, is_held, Answer, answers, bound, set_parameter, restored, failed, commit_outside, save, save_unless, ready, reports, report_of, reports_from, status}
use Rattle.session_values.specs.Lookups.{Columns, look_up, found, to_read}
use Rattle.session_values.specs.Runs as runs
use Rattle.session_values.specs.Runs.{Ran, Outcome, ran, run, begin_run, commit_run, rollback_run, discard_run, create_run, insert_run, set_run, set_current, set_local_run, show_run, select_run, opened, declare_run, fetch_run, close_run, row_tag, given_frames, are_distinct, all_fit, operand_value, with_table, insert_into}
use Rattle.session_values.specs.Extended.{parse, bind, bindable, describe, described, describe_portal, is_result_count, close, execute, execute_on, execute_rows, execute_outcome, execute_ran, sent_rows, description, is_limit, usable, settle, Described}
use Rattle.session_values.specs.Step.{Asked, Terminate, Sync, Query, FunctionCall, ParseMessage, BindMessage, Describe, Close, Execute, Password, Nothing, asked, answer_to, answer_skipping, end_query, executed, step, step_query, without_unnamed, sync, saved, reading_body, heading, query_ran, query}
use Rattle.session_laws.specs.Laws.{has_ready, Ends, without_ready, with_ready}

pub record Fine (s : State) (after : State) (sent : List FrameOf) : Type 0 where
  pub no_ready : has_ready sent ≡ false
  pub skipping : after.skipping ≡ s.skipping
  pub ended : after.ended ≡ s.ended
  pub defaults : after.defaults ≡ s.defaults

abbrev pub AllFine : State → Result Answer Cause → Type 0
AllFine s (Ok a) = Fine s a.next a.replies
AllFine s (Err c) = Unit {0}

abbrev pub RanFine : State → Result Ran Cause → Type 0
RanFine s (Ok r) = Fine s r.after r.notices
RanFine s (Err c) = Unit {0}

plainly : (s after : State) (sent : List FrameOf) → has_ready sent ≡ false → after.skipping ≡ s.skipping → after.ended ≡ s.ended → after.defaults ≡ s.defaults → Fine s after sent
plainly s after sent n k e d = record { no_ready = n; skipping = k; ended = e; defaults = d }

pub bound-fine : {A : Type 0} (s : State) (r : Result A Cause) (f : A → Result Answer Cause) → ((x : A) → AllFine s (f x)) → AllFine s (bound r f)
bound-fine s (Ok x) f h = h x
bound-fine s (Err c) f h = tt

-- ---- lists of rows

or-true : (b : Bool) → (b || false) ≡ b
or-true true = refl
or-true false = refl

has_ready-append : (xs ys : List FrameOf) → has_ready xs ≡ false → has_ready ys ≡ false → has_ready (xs ++ ys) ≡ false
has_ready-append [] ys a b = b
has_ready-append (x ∷ xs) ys a b = both (x.kind == READY_FOR_QUERY) (has_ready xs) (has_ready (xs ++ ys)) a (λ h. has_ready-append xs ys h b)
  where
    both : (p q r : Bool) → (p || q) ≡ false → (q ≡ false → r ≡ false) → (p || r) ≡ false
    both true q r h f = absurd cc
    both false q r h f = f h

has_ready-rows : (rows : List Row) (last : FrameOf) → (last.kind == READY_FOR_QUERY) ≡ false → has_ready (map data_row rows ++ last ∷ []) ≡ false
has_ready-rows [] last h = or-true (last.kind == READY_FOR_QUERY) ∙ h
has_ready-rows (r ∷ rows) last h = has_ready-rows rows last h

-- ---- runs

set-fine : (s : State) (tag : Text) (x y : Result Values Cause) → RanFine s (set_run s tag x y)
set-fine s tag (Ok vs) (Ok ls) = plainly _ _ _ refl refl refl refl
set-fine s tag (Ok vs) (Err c) = tt
set-fine s tag (Err c) y = tt

current-fine : (s : State) (x : Result Values Cause) → RanFine s (set_current s x)
current-fine s (Ok vs) = plainly _ _ _ refl refl refl refl
current-fine s (Err c) = tt

local-fine : (s : State) (b : Block) (x : Result Values Cause) → RanFine s (set_local_run s b x)
local-fine s Outside x = plainly _ _ _ refl refl refl refl
local-fine s Inside x = current-fine s x
local-fine s Failed x = current-fine s x

begin-fine : (s : State) (b : Block) → RanFine s (begin_run s b)
begin-fine s Outside = plainly _ _ _ refl refl refl refl
begin-fine s Inside = plainly _ _ _ refl refl refl refl
begin-fine s Failed = plainly _ _ _ refl refl refl refl

commit-fine : (s : State) (b : Block) → RanFine s (commit_run s b)
commit-fine s Outside = plainly _ _ _ refl refl refl refl
commit-fine s Inside = plainly _ _ _ refl refl refl refl
commit-fine s Failed = plainly _ _ _ refl refl refl refl

discard-fine : (s : State) (b : Block) → RanFine s (discard_run s b)
discard-fine s Outside = plainly _ _ _ refl refl refl refl
discard-fine s Inside = tt
discard-fine s Failed = tt

pub roll_back-same : (s : State) (c : Option SavedOf) → (restored s c).skipping ≡ s.skipping × (restored s c).ended ≡ s.ended × (restored s c).defaults ≡ s.defaults
roll_back-same s None = (refl, refl, refl)
roll_back-same s (Some c) = (refl, refl, refl)

rollback-fine : (s : State) (b : Block) → RanFine s (rollback_run s b)
rollback-fine s Outside = let h = roll_back-same s s.saved in plainly _ _ _ refl h.0 h.1 h.2
rollback-fine s Inside = let h = roll_back-same s s.saved in plainly _ _ _ refl h.0 h.1 h.2
rollback-fine s Failed = let h = roll_back-same s s.saved in plainly _ _ _ refl h.0 h.1 h.2

chosen-fine : (s : State) (b : Bool) (r q : Result Ran Cause) → RanFine s r → RanFine s q → RanFine s (if b then r else q)
chosen-fine s true r q h k = h
chosen-fine s false r q h k = k

create-fine : (s : State) (t : Text) (cs : List Text) (o : Option TableOf) → RanFine s (create_run s t cs o)
create-fine s t cs (Some there) = tt
create-fine s t cs None = chosen-fine s (are_distinct cs) (ran (with_table s t cs) [] (codes "CREATE TABLE")) (Err ColumnTwice) (plainly _ _ _ refl refl refl refl) tt

inserted-fine : (s : State) (o : Option TableOf) (r : Row) → Fine s (insert_into s o r) []
inserted-fine s None r = plainly _ _ _ refl refl refl refl
inserted-fine s (Some t) r = plainly _ _ _ refl refl refl refl

insert-fine : (s : State) (t : Text) (r : Row) → RanFine s (insert_run s t r)
insert-fine s t r = chosen-fine s (all_fit r) (ran (insert_into s (named table_name s.tables t) r) [] (codes "INSERT 0 1")) (Err InvalidValue) (inserted-fine s (named table_name s.tables t) r) tt

show-fine : (s : State) (o : Option Parameter) → RanFine s (show_run s o)
show-fine s None = tt
show-fine s (Some p) = plainly _ _ _ refl refl refl refl

select-fine : (s : State) (given : Row) (w : Option Equals) (cs : List Text) (r : Result TableOf Cause) → RanFine s (select_run s given w cs r)
select-fine s given w cs (Ok t) = plainly _ _ _ refl refl refl refl
select-fine s given w cs (Err c) = tt

opened-fine : (s : State) (c : Text) (cs : List Text) (w : Option Equals) (r : Result TableOf Cause) → RanFine s (opened s c cs w r)
opened-fine s c cs w (Ok t) = plainly _ _ _ refl refl refl refl
opened-fine s c cs w (Err e) = tt

declare-fine : (s : State) (c : Text) (cs : List Text) (w : Option Equals) (r : Result TableOf Cause) (o : Option CursorOf) → RanFine s (declare_run s c cs w r o)
declare-fine s c cs w r (Some there) = tt
declare-fine s c cs w r None = opened-fine s c cs w r

fetch-fine : (s : State) (n : Option ℕ) (o : Option CursorOf) → RanFine s (fetch_run s n o)
fetch-fine s n None = tt
fetch-fine s n (Some c) = plainly _ _ _ refl refl refl refl

close_run-fine : (s : State) (c : Text) (o : Option CursorOf) → RanFine s (close_run s c o)
close_run-fine s c None = tt
close_run-fine s c (Some there) = plainly _ _ _ refl refl refl refl

run-fine : (cat : CatalogueOf) (s : State) (given : Row) (x : Statement) → RanFine s (run cat s given x)
run-fine cat s given st.Empty = plainly _ _ _ refl refl refl refl
run-fine cat s given st.Begin = begin-fine s s.block
run-fine cat s given st.Commit = commit-fine s s.block
run-fine cat s given st.Rollback = rollback-fine s s.block
run-fine cat s given (st.Set n v) = set-fine s (codes "SET") (set_parameter s.defaults s.current n v) (set_parameter s.defaults s.lasting n v)
run-fine cat s given (st.SetLocal n v) = local-fine s s.block (set_parameter s.defaults s.current n v)
run-fine cat s given (st.Reset n) = set-fine s (codes "RESET") (set_parameter s.defaults s.current n None) (set_parameter s.defaults s.lasting n None)
run-fine cat s given st.ResetAll = plainly _ _ _ refl refl refl refl
run-fine cat s given (st.Show n) = show-fine s (parameter_named n)
run-fine cat s given st.DiscardAll = discard-fine s s.block
run-fine cat s given (st.Create t cs) = create-fine s t cs (named table_name s.tables t)
run-fine cat s given (st.Drop t) = plainly _ _ _ refl refl refl refl
run-fine cat s given (st.Insert t vs) = insert-fine s t (map (operand_value given) vs)
run-fine cat s given (st.Select cs t w) = select-fine s given w cs (to_read cat s t)
run-fine cat s given (st.Declare c cs t w) = declare-fine s c cs w (to_read cat s t) (named cursor_name s.cursors c)
run-fine cat s given (st.Fetch n c) = fetch-fine s n (named cursor_name s.cursors c)
run-fine cat s given (st.CloseCursor c) = close_run-fine s c (named cursor_name s.cursors c)

-- ---- queries

given-fine : (x : Statement) (o : Outcome) → has_ready (given_frames x o) ≡ false
given-fine x runs.Nothing = refl
given-fine x (runs.Done tag) = refl
given-fine x (runs.Rows rows) = has_ready-rows rows _ refl

heading-fine : (cs : Columns) → has_ready (heading cs) ≡ false
heading-fine None = refl
heading-fine (Some cs) = refl

query_ran-fine : (s : State) (x : Statement) (cs : Columns) (r : Result Ran Cause) → RanFine s r → AllFine s (bound r (λ y. Ok (query_ran x cs y)))
query_ran-fine s x cs (Ok r) h = plainly _ _ _ (has_ready-append (r.notices ++ heading cs) (given_frames x r.outcome) (has_ready-append r.notices (heading cs) h.no_ready (heading-fine cs)) (given-fine x r.outcome)) h.skipping h.ended h.defaults
query_ran-fine s x cs (Err c) h = tt

pub query-fine : (cat : CatalogueOf) (s : State) (t : Text) → AllFine s (query cat s t)
query-fine cat s t =
    bound-fine s (usable s t) _ (λ x. bound-fine s _ _ (λ u. bound-fine s (look_up cat s x) _ (λ cs. query_ran-fine s x cs (run cat s [] x) (run-fine cat s [] x))))

-- ---- the extended query

pub parse-fine : (cat : CatalogueOf) (s : State) (p : Parse) → AllFine s (parse cat s p)
parse-fine cat s p =
    bound-fine s (usable s p.query) _ (λ x. bound-fine s _ _ (λ u. bound-fine s (look_up cat s x) _ (λ cs. plainly _ _ _ refl refl refl refl)))

pub bind-fine : (cat : CatalogueOf) (s : State) (b : Bind) → AllFine s (bind cat s b)
bind-fine cat s b = bound-fine s (bindable cat s b) _ (λ p. plainly _ _ _ refl refl refl refl)

kind-described : (fs : List ℕ) (cs : Option (List Text)) → has_ready (description fs cs ∷ []) ≡ false
kind-described fs None = refl
kind-described fs (Some cs) = refl

portal-fine : (s : State) (p : PortalOf) (d : Described) → AllFine s (describe_portal s p d)
portal-fine s p d = by_test (is_result_count (length p.formats) d.columns)
  where
    by_test : (b : Bool) → AllFine s (if b then Ok (answers s (description p.formats d.columns ∷ [])) else Err MalformedMessage)
    by_test true = plainly _ _ _ (kind-described p.formats d.columns) refl refl refl
    by_test false = tt

pub describe-fine : (cat : CatalogueOf) (s : State) (t : Target) → AllFine s (describe cat s t)
describe-fine cat s (OfStatement n) =
    bound-fine s (found NoStatement (named prepared_name s.statements n)) _ (λ p. bound-fine s (described cat s p.query) _ (λ d. plainly _ _ _ (kind-described [] d.columns) refl refl refl))
describe-fine cat s (OfPortal n) =
    bound-fine s (found NoPortal (named portal_name s.portals n)) _ (λ p. bound-fine s (described cat s p.query) _ (λ d. portal-fine s p d))

pub close-fine : (s : State) (t : Target) → Fine s (close s t).next (close s t).replies
close-fine s (OfStatement n) = plainly _ _ _ refl refl refl refl
close-fine s (OfPortal n) = plainly _ _ _ refl refl refl refl

sent-fine : (s : State) (n : Text) (x : Statement) (limit : ℕ) (rows : List Row) → Fine s (execute_rows s n x limit rows).next (execute_rows s n x limit rows).replies
sent-fine s n x limit rows = by_test (is_limit limit && nat_le limit (length rows))
  where
    by_test : (b : Bool) → Fine s (if b then sent_rows s n (take limit rows) (drop limit rows) portal_suspended else sent_rows s n rows [] (command_complete (row_tag x (length rows)))).next (if b then sent_rows s n (take limit rows) (drop limit rows) portal_suspended else sent_rows s n rows [] (command_complete (row_tag x (length rows)))).replies
    by_test true = plainly _ _ _ (has_ready-rows (take limit rows) _ refl) refl refl refl
    by_test false = plainly _ _ _ (has_ready-rows rows _ refl) refl refl refl

outcome-fine : (s : State) (n : Text) (x : Statement) (limit : ℕ) (o : Outcome) → Fine s (execute_outcome s n x limit o).next (execute_outcome s n x limit o).replies
outcome-fine s n x limit (runs.Rows rows) = sent-fine s n x limit rows
outcome-fine s n x limit runs.Nothing = plainly _ _ _ refl refl refl refl
outcome-fine s n x limit (runs.Done tag) = plainly _ _ _ refl refl refl refl

first-fine : (s : State) (n : Text) (x : Statement) (limit : ℕ) (r : Result Ran Cause) → RanFine s r → AllFine s (bound r (λ y. Ok (execute_ran n x limit y)))
first-fine s n x limit (Ok r) h =
    let o = outcome-fine r.after n x limit r.outcome in
    plainly _ _ _ (has_ready-append r.notices _ h.no_ready o.no_ready) (o.skipping ∙ h.skipping) (o.ended ∙ h.ended) (o.defaults ∙ h.defaults)
first-fine s n x limit (Err c) h = tt

on-fine : (cat : CatalogueOf) (s : State) (p : PortalOf) (limit : ℕ) (x : Statement) (g : ProgressOf) → AllFine s (execute_on cat s p limit x g)
on-fine cat s p limit x NotRun = first-fine s p.name x limit (run cat s p.given x) (run-fine cat s p.given x)
on-fine cat s p limit x (Remaining rows) = sent-fine s p.name x limit rows
on-fine cat s p limit x Finished = tt

pub execute-fine : (cat : CatalogueOf) (s : State) (n : Text) (limit : ℕ) → AllFine s (execute cat s n limit)
execute-fine cat s n limit =
    bound-fine s (found NoPortal (named portal_name s.portals n)) _ (λ p. bound-fine s (usable s p.query) _ (λ x. bound-fine s (look_up cat s x) _ (λ cs. on-fine cat s p limit x p.progress)))

pub executed-fine : (cat : CatalogueOf) (s : State) (struck : Bool) (e : Text × ℕ) → AllFine s (executed cat s struck e)
executed-fine cat s true e = tt
executed-fine cat s false e = execute-fine cat s e.0 e.1

-- ---- a step

reports-fine : (ps : List Parameter) (vs rs : List Text) → has_ready (reports_from ps vs rs) ≡ false
reports-fine [] vs rs = refl
reports-fine (p ∷ ps) [] rs = refl
reports-fine (p ∷ ps) (v ∷ vs) [] = refl
reports-fine (p ∷ ps) (v ∷ vs) (r ∷ rs) = has_ready-append (report_of p v r) (reports_from ps vs rs) (by_test (same_text v r)) (reports-fine ps vs rs)
  where
    by_test : (b : Bool) → has_ready (if b then [] else (parameter_status (name p) v ∷ [])) ≡ false
    by_test true = refl
    by_test false = refl

all-held : (cs : List CursorOf) → list_all is_held (map held cs) ≡ true
all-held [] = refl
all-held (c ∷ cs) = all-held cs

left-held : (cs : List CursorOf) → list_all is_held (filter is_held cs) ≡ true
left-held [] = refl
left-held (c ∷ cs) = by_test (is_held c) refl (left-held cs)
  where
    by_test : (b : Bool) → is_held c ≡ b → list_all is_held (filter is_held cs) ≡ true → list_all is_held (cond b (c ∷ filter is_held cs) (filter is_held cs)) ≡ true
    by_test true e h = rw e h
    by_test false e h = h

-- nothing is kept for the end of a transaction
pub record IsSettled (t : State) : Type 0 where
  pub not_saved : t.saved ≡ None
  pub lasts : t.lasting ≡ t.current
  pub holds : list_all is_held t.cursors ≡ true

-- reports and ReadyForQuery after these replies
readied : (kind : ℕ) (t : State) (sent : List FrameOf) → is_closing kind ≡ true → has_ready sent ≡ false → t.ended ≡ false → t.skipping ≡ false → (t.block ≡ Outside → IsSettled t) → Ends kind (ready t).next (sent ++ (ready t).replies)
readied kind t sent c n e k v =
    let all : Ends kind (ready t).next ((sent ++ reports t) ++ ready_for_query (status t.block) ∷ []) = with_ready (sent ++ reports t) t.block c (has_ready-append sent (reports t) n (reports-fine reported_parameters t.current t.reported)) refl e k (λ o. let h = v o in record { not_ended = e; not_skipping = k; outside = o; not_saved = h.not_saved; lasts = h.lasts; holds = h.holds }) refl in
    subst (λ (rs : List FrameOf). Ends kind (ready t).next rs) (append_assoc sent (reports t) (ready_for_query (status t.block) ∷ [])) all

committed-rest : (t : State) (b : Block) → t.block ≡ b → (commit_outside t b).block ≡ Outside → IsSettled (commit_outside t b)
committed-rest t Outside h o = record { not_saved = refl; lasts = refl; holds = all-held t.cursors }
committed-rest t Inside h o = absurd (let h' = h in cc)
committed-rest t Failed h o = absurd (let h' = h in cc)

committed-ended : (t : State) (b : Block) → (commit_outside t b).ended ≡ t.ended × (commit_outside t b).skipping ≡ t.skipping
committed-ended t Outside = (refl, refl)
committed-ended t Inside = (refl, refl)
committed-ended t Failed = (refl, refl)

pub end_query-ends : (kind : ℕ) (s : State) (r : Result Answer Cause) → is_closing kind ≡ true → AllFine s r → s.ended ≡ false → s.skipping ≡ false → Ends kind (end_query s r).next (end_query s r).replies
end_query-ends kind s (Ok a) c f e k =
    let t = commit_outside a.next a.next.block in
    let h = committed-ended a.next a.next.block in
    readied kind t a.replies c f.no_ready (h.0 ∙ f.ended ∙ e) (h.1 ∙ f.skipping ∙ k) (committed-rest a.next a.next.block refl)
end_query-ends kind s (Err x) c f e k =
    let h = roll_back-same s s.saved in
    readied kind (failed s) (error x ∷ []) c refl (h.1 ∙ e) (h.0 ∙ k) (λ o. record { not_saved = refl; lasts = refl; holds = left-held s.cursors })

pub settle-ends : (kind : ℕ) (s : State) (r : Result Answer Cause) → AllFine s r → Ends kind (settle s r).next (settle s r).replies
settle-ends kind s (Ok a) f = without_ready f.no_ready
settle-ends kind s (Err c) f = without_ready refl

-- saving changes neither skipping nor the end nor the defaults
pub save-same : (s : State) (b : Block) → (save s b).ended ≡ s.ended × (save s b).skipping ≡ s.skipping × (save s b).defaults ≡ s.defaults
save-same s Outside = kept s s.saved
  where
    kept : (t : State) (c : Option SavedOf) → (save_unless t c).ended ≡ t.ended × (save_unless t c).skipping ≡ t.skipping × (save_unless t c).defaults ≡ t.defaults
    kept t None = (refl, refl, refl)
    kept t (Some c) = (refl, refl, refl)
save-same s Inside = (refl, refl, refl)
save-same s Failed = (refl, refl, refl)

-- the closing messages
abbrev closes : Asked → Bool
closes Query = true
closes FunctionCall = true
closes Sync = true
closes _ = false

not_closing : (b : Bool) (x y : Asked) → closes x ≡ false → closes y ≡ false → closes (if b then x else y) ≡ false
not_closing true x y h k = h
not_closing false x y h k = k

by_letters : (x s q f : Bool) (rest : Asked) → closes rest ≡ false → closes (if x then Terminate else (if s then Sync else (if q then Query else (if f then FunctionCall else rest)))) ≡ true → (q || f || s) ≡ true
by_letters true s q f rest o h = absurd (let h' = h in cc)
by_letters false true true true rest o h = refl
by_letters false true true false rest o h = refl
by_letters false true false true rest o h = refl
by_letters false true false false rest o h = refl
by_letters false false true true rest o h = refl
by_letters false false true false rest o h = refl
by_letters false false false true rest o h = refl
by_letters false false false false rest o h = absurd (let h' = h in cc)

asked-closes : (kind : ℕ) → closes (asked kind) ≡ true → is_closing kind ≡ true
asked-closes kind h =
    by_letters (kind == client.TERMINATE) (kind == client.SYNC) (kind == client.QUERY) (kind == client.FUNCTION_CALL) _ (
    not_closing (kind == client.PARSE) _ _ refl (
    not_closing (kind == client.BIND) _ _ refl (
    not_closing (kind == client.DESCRIBE) _ _ refl (
    not_closing (kind == client.CLOSE) _ _ refl (
    not_closing (kind == client.EXECUTE) _ _ refl (
    not_closing (kind == client.PASSWORD_MESSAGE) _ _ refl refl)))))) h

sync-ends : (kind : ℕ) (s : State) → is_closing kind ≡ true → s.ended ≡ false → Ends kind (sync s).next (sync s).replies
sync-ends kind s c e =
    let t : State = record s { skipping = false } in
    let h = committed-ended t s.block in
    readied kind (commit_outside t s.block) [] c refl (h.0 ∙ e) h.1 (committed-rest t s.block refl)

module _ (cat : CatalogueOf) (kind : ℕ) (s : State) (e : s.ended ≡ false) (k : s.skipping ≡ false) where
  query-ends : (struck : Bool) (t : Result Text ViewError) → is_closing kind ≡ true → Ends kind (step_query cat s struck t).next (step_query cat s struck t).replies
  query-ends struck (Err v) c = end_query-ends kind s (Err MalformedMessage) c tt e k
  query-ends true (Ok t) c = end_query-ends kind s (Err Cancelled) c tt e k
  query-ends false (Ok t) c = end_query-ends kind (without_unnamed s) (query cat (without_unnamed s) t) c (query-fine cat (without_unnamed s) t) e k

  body-ends : {A : Type 0} (o : Result A ViewError) (f : A → Result Answer Cause) → ((x : A) → AllFine s (f x)) → Ends kind (settle s (bound (reading_body o) f)).next (settle s (bound (reading_body o) f)).replies
  body-ends o f h = settle-ends kind s (bound (reading_body o) f) (bound-fine s (reading_body o) f h)

answer-ends : (cat : CatalogueOf) (kind : ℕ) (s : State) (struck : Bool) (a : Asked) (body : List ℕ) → (closes a ≡ true → is_closing kind ≡ true) → s.ended ≡ false → s.skipping ≡ false → Ends kind (answer_to cat s struck a body).next (answer_to cat s struck a body).replies
answer-ends cat kind s struck Terminate body c e k = without_ready refl
answer-ends cat kind s struck Sync body c e k = sync-ends kind s (c refl) e
answer-ends cat kind s struck Query body c e k = let g = save-same s s.block in query-ends cat kind (saved s) (g.0 ∙ e) (g.1 ∙ k) struck (query_of body) (c refl)
answer-ends cat kind s struck FunctionCall body c e k = let g = save-same s s.block in end_query-ends kind (saved s) (Err NotSupported) (c refl) tt (g.0 ∙ e) (g.1 ∙ k)
answer-ends cat kind s struck ParseMessage body c e k = let g = save-same s s.block in body-ends cat kind (saved s) (g.0 ∙ e) (g.1 ∙ k) (parse_of body) _ (parse-fine cat (saved s))
answer-ends cat kind s struck BindMessage body c e k = let g = save-same s s.block in body-ends cat kind (saved s) (g.0 ∙ e) (g.1 ∙ k) (bind_of body) _ (bind-fine cat (saved s))
answer-ends cat kind s struck Describe body c e k = let g = save-same s s.block in body-ends cat kind (saved s) (g.0 ∙ e) (g.1 ∙ k) (target_of body) _ (describe-fine cat (saved s))
answer-ends cat kind s struck Close body c e k = let g = save-same s s.block in body-ends cat kind (saved s) (g.0 ∙ e) (g.1 ∙ k) (target_of body) _ (close-fine (saved s))
answer-ends cat kind s struck Execute body c e k = let g = save-same s s.block in body-ends cat kind (saved s) (g.0 ∙ e) (g.1 ∙ k) (execute_of body) _ (executed-fine cat (saved s) struck)
answer-ends cat kind s struck Password body c e k = settle-ends kind s (Err MalformedMessage) tt
answer-ends cat kind s struck Nothing body c e k = without_ready refl

skipping-ends : (kind : ℕ) (s : State) (a : Asked) → (closes a ≡ true → is_closing kind ≡ true) → s.ended ≡ false → Ends kind (answer_skipping s a).next (answer_skipping s a).replies
skipping-ends kind s Terminate c e = without_ready refl
skipping-ends kind s Sync c e = sync-ends kind s (c refl) e
skipping-ends kind s Query c e = without_ready refl
skipping-ends kind s FunctionCall c e = without_ready refl
skipping-ends kind s ParseMessage c e = without_ready refl
skipping-ends kind s BindMessage c e = without_ready refl
skipping-ends kind s Describe c e = without_ready refl
skipping-ends kind s Close c e = without_ready refl
skipping-ends kind s Execute c e = without_ready refl
skipping-ends kind s Password c e = without_ready refl
skipping-ends kind s Nothing c e = without_ready refl

choose : (kind : ℕ) (b : Bool) (x y : Answer) → (b ≡ true → Ends kind x.next x.replies) → (b ≡ false → Ends kind y.next y.replies) → Ends kind (if b then x else y).next (if b then x else y).replies
choose kind true x y f g = f refl
choose kind false x y f g = g refl

pub step-ends : (cat : CatalogueOf) (s : State) (struck : Bool) (f : FrameOf) → Ends f.kind (step cat s struck f).next (step cat s struck f).replies
unfolding step
step-ends cat s struck f =
    choose f.kind s.ended _ _ (λ h. without_ready refl) (λ e.
    choose f.kind s.skipping _ _ (λ h. skipping-ends f.kind s (asked f.kind) (asked-closes f.kind) e) (λ k.
    answer-ends cat f.kind s struck (asked f.kind) f.body (asked-closes f.kind) e k))
