-- What a step does to a session that began fresh: the session stays lawful, the replies are whole
-- frames, the ParameterStatus among them are reports, and they tell the reported values.
use Rattle.std.proofs.Common.{◌≡◌, ℕ, ◌+◌, ◌≤◌, List, [], ◌∷◌, ◌++◌, length, Option, Some, None, Result, Ok, Err, refl, sym, ap, subst, ◌∙◌, Bool, true, false, arith, eq-eqb}
use Rattle.std.specs.Prelude.{if◌then◌else◌}
use Rattle.std.specs.List.{AllByRecursion}
use Rattle.frame_view.specs.declared.server.TheConstants.{PARAMETER_STATUS}
use Rattle.frame_view.specs.declared.frames.TheConstants.{MAX_FRAME}
use Rattle.frame_view.specs.Frames.{AreBytes, FrameOf, IsFrame}
use Rattle.frame_view.specs.declared.Side.TheVariants.{Server}
use Rattle.message_view.specs.declared.ViewError.{ViewError}
use Rattle.message_view.specs.Bodies.{Parse}
use Rattle.message_view.specs.Messages.{ready_for_query}
use Rattle.message_view.specs.Reading.{query_of, parse_of, bind_of, target_of, execute_of}
use Rattle.mini_sql.specs.Words.{Text}
use Rattle.session_values.specs.declared.block.Block.{Block}
use Rattle.session_values.specs.declared.block.Block.TheVariants.{Outside, Inside, Failed}
use Rattle.session_values.specs.declared.cause.Cause.{Cause}
use Rattle.session_values.specs.declared.cause.Cause.TheVariants.{MalformedMessage, NotSupported, InvalidValue, InTransaction, Aborted, NoStatement, NoPortal, NoDatabase, Syntax, ColumnTwice, NoColumn, NoParameter, NoTable, NoPlaceholder, PortalExists, StatementExists, TableExists, PortalIsDone, FixedParameter, Cancelled}
use Rattle.session_values.specs.Parameters.{Values}
use Rattle.session_values.specs.Errors.{error}
use Rattle.session_values.specs.State.{State, CatalogueOf, StartKeyOf, SavedOf, Answer, answers, bound, begun, fresh, failed, commit_outside, save, save_unless, reports, reported_of, reported_now, status}
use Rattle.session_values.specs.Extended.{settle}
use Rattle.session_values.specs.Step.{Asked, Terminate, Sync, Query, FunctionCall, ParseMessage, BindMessage, Describe, Close, Execute, Password, Nothing, asked, answer_to, answer_skipping, executed, step, step_query, end_query, silent, sync, saved, reading_body, query, without_unnamed}
use Rattle.session_values.specs.Lawful.{IsLawfulCatalogue, IsLawfulKey, IsLawfulParameter}
use Rattle.session_laws.specs.Laws.{HasKey, IsSent, Reaches, begins, steps, IsReport, IsReportIf, after_replies}
use Rattle.session_values.proofs.Alls.{all-as, all-append}
use Rattle.session_laws.proofs.Bodies.{QueryTold, query-told, ParseTold, parse-told}
use Rattle.session_laws.proofs.Freshness.{fresh-begun, step-has_key}
use Rattle.session_laws.proofs.GoodValues.{AreSettings, IsPair, OfOk, reported-settings, fresh-settings}
use Rattle.session_laws.proofs.Lawful.{IsPlain, IsTable, IsSource, Lawful, lawful-table}
use Rattle.session_laws.proofs.Handling.{StaysLawful, AllKept, kept, made, bound-kept, Any, any}
use Rattle.session_laws.proofs.Keeping.{commit-lawful, roll_back-lawful, roll_back-reported, without_unnamed-lawful, query-kept, parse-kept, bind-kept, describe-kept, close-kept, execute-kept}
use Rattle.session_laws.proofs.Telling.{reports-are, report-frame, reports-tell, after-append}

pub record Stepped (s : State) (a : Answer) : Type 0 where
  pub lawful : Lawful a.next
  pub frames : AllByRecursion (IsFrame Server MAX_FRAME) a.replies
  pub reports : AllByRecursion IsReportIf a.replies
  pub told : a.next.reported ≡ after_replies s.reported a.replies

-- ---- plain replies

plain-frame : (f : FrameOf) → IsPlain f → IsFrame Server MAX_FRAME f
plain-frame f h = record { of_type = refl; size = h.0 }

plain-report : (f : FrameOf) → IsPlain f → IsReportIf f
plain-report f h e = absurd (let k = eq-eqb f.kind PARAMETER_STATUS e in let l = h.1 in cc)

after-plain : (vs : List Text) (fs : List FrameOf) → AllByRecursion IsPlain fs → after_replies vs fs ≡ vs
after-plain vs [] h = refl
after-plain vs (f ∷ fs) h = let e = h.0.1 in rw e (after-plain vs fs h.1)

pub kept-stepped : (s : State) (a : Answer) → StaysLawful s a.next a.replies → Stepped s a
kept-stepped s a h = record {
  lawful = h.lawful;
  frames = all-as IsPlain (IsFrame Server MAX_FRAME) plain-frame a.replies h.plain;
  reports = all-as IsPlain IsReportIf plain-report a.replies h.plain;
  told = h.reported ∙ sym (after-plain s.reported a.replies h.plain);
}

ready-plain : (n : ℕ) → IsPlain (ready_for_query n)
ready-plain n = (omega arith, refl)

error-plain : (c : Cause) → IsPlain (error c)
error-plain MalformedMessage = (omega arith, refl)
error-plain NotSupported = (omega arith, refl)
error-plain InvalidValue = (omega arith, refl)
error-plain InTransaction = (omega arith, refl)
error-plain Aborted = (omega arith, refl)
error-plain NoStatement = (omega arith, refl)
error-plain NoPortal = (omega arith, refl)
error-plain NoDatabase = (omega arith, refl)
error-plain Syntax = (omega arith, refl)
error-plain ColumnTwice = (omega arith, refl)
error-plain NoColumn = (omega arith, refl)
error-plain NoParameter = (omega arith, refl)
error-plain NoTable = (omega arith, refl)
error-plain NoPlaceholder = (omega arith, refl)
error-plain PortalExists = (omega arith, refl)
error-plain StatementExists = (omega arith, refl)
error-plain TableExists = (omega arith, refl)
error-plain PortalIsDone = (omega arith, refl)
error-plain FixedParameter = (omega arith, refl)
error-plain Cancelled = (omega arith, refl)

-- ---- reports and ReadyForQuery

-- the end of an answer: replies, then reports and ReadyForQuery
abbrev closing : State → List FrameOf → Answer
closing t sent = answers (reported_now t) (sent ++ (reports t ++ ready_for_query (status t.block) ∷ []))

closing-told : (s t : State) (sent : List FrameOf) → Lawful t → t.reported ≡ s.reported → AllByRecursion IsPlain sent → reported_of t.current ≡ after_replies s.reported (sent ++ (reports t ++ ready_for_query (status t.block) ∷ []))
closing-told s t sent h e p =
    let last : List FrameOf = ready_for_query (status t.block) ∷ [] in
    let all = after-append s.reported sent (reports t ++ last) in
    let sent-told = ap (λ (vs : List Text). after_replies vs (reports t ++ last)) (after-plain s.reported sent p ∙ sym e) in
    let parts = after-append t.reported (reports t) last in
    sym (all ∙ sent-told ∙ parts ∙ ap (λ (vs : List Text). after_replies vs last) (reports-tell t.current t.reported h.current h.reported))

closing-stepped : (s t : State) (sent : List FrameOf) → Lawful t → t.reported ≡ s.reported → AllByRecursion IsPlain sent → Stepped s (closing t sent)
closing-stepped s t sent h e p =
    let rs = reports-are t.current t.reported h.current in
    let last : List FrameOf = ready_for_query (status t.block) ∷ [] in
    record {
      lawful = made _ h.defaults h.current (reported-settings t.current h.current) h.saved h.statements h.portals h.tables h.lasting h.cursors;
      frames = all-append (IsFrame Server MAX_FRAME) sent _ (all-as IsPlain (IsFrame Server MAX_FRAME) plain-frame sent p) (all-append (IsFrame Server MAX_FRAME) (reports t) last (all-as IsReport (IsFrame Server MAX_FRAME) report-frame (reports t) rs) (plain-frame _ (ready-plain (status t.block)), tt));
      reports = all-append IsReportIf sent _ (all-as IsPlain IsReportIf plain-report sent p) (all-append IsReportIf (reports t) last (all-as IsReport IsReportIf (λ (f : FrameOf) (k : IsReport f) (z : f.kind ≡ 83). k) (reports t) rs) (plain-report _ (ready-plain (status t.block)), tt));
      told = closing-told s t sent h e p;
    }

commit_outside-lawful : (t : State) (b : Block) → Lawful t → Lawful (commit_outside t b)
commit_outside-lawful t Outside h = commit-lawful t h
commit_outside-lawful t Inside h = h
commit_outside-lawful t Failed h = h

commit_outside-reported : (t : State) (b : Block) → (commit_outside t b).reported ≡ t.reported
commit_outside-reported t Outside = refl
commit_outside-reported t Inside = refl
commit_outside-reported t Failed = refl

failed-lawful : (s : State) → Lawful s → Lawful (failed s)
failed-lawful s h = let g = roll_back-lawful s h in made _ g.defaults g.current g.reported g.saved g.statements g.portals g.tables g.lasting g.cursors

end_query-stepped : (s : State) (r : Result Answer Cause) → Lawful s → AllKept s r → Stepped s (end_query s r)
end_query-stepped s (Ok a) h k =
    closing-stepped s (commit_outside a.next a.next.block) a.replies (commit_outside-lawful a.next a.next.block k.lawful) (commit_outside-reported a.next a.next.block ∙ k.reported) k.plain
end_query-stepped s (Err c) h k = closing-stepped s (failed s) (error c ∷ []) (failed-lawful s h) (roll_back-reported s s.saved) (error-plain c, tt)

settle-stepped : (s : State) (r : Result Answer Cause) → Lawful s → AllKept s r → Stepped s (settle s r)
settle-stepped s (Ok a) h k = kept-stepped s a k
settle-stepped s (Err c) h k =
    let g = failed-lawful s h in
    kept-stepped s _ (kept s _ _ (made _ g.defaults g.current g.reported g.saved g.statements g.portals g.tables g.lasting g.cursors) (roll_back-reported s s.saved) (error-plain c, tt))

-- ---- each message

save_unless-lawful : (s : State) (c : Option SavedOf) → Lawful s → Lawful (save_unless s c)
save_unless-lawful s None h = made _ h.defaults h.current h.reported (h.current, h.tables) h.statements h.portals h.tables h.lasting h.cursors
save_unless-lawful s (Some c) h = h

save_unless-reported : (s : State) (c : Option SavedOf) → (save_unless s c).reported ≡ s.reported
save_unless-reported s None = refl
save_unless-reported s (Some c) = refl

save-lawful : (s : State) (b : Block) → Lawful s → Lawful (save s b)
save-lawful s Outside h = save_unless-lawful s s.saved h
save-lawful s Inside h = h
save-lawful s Failed h = h

save-reported : (s : State) (b : Block) → (save s b).reported ≡ s.reported
save-reported s Outside = save_unless-reported s s.saved
save-reported s Inside = refl
save-reported s Failed = refl

-- a step from a state with the same reported values
stepped-from : (s t : State) (a : Answer) → t.reported ≡ s.reported → Stepped t a → Stepped s a
stepped-from s t a e h = record { lawful = h.lawful; frames = h.frames; reports = h.reports; told = h.told ∙ ap (λ (vs : List Text). after_replies vs a.replies) e }

saved-stepped : (s : State) (a : Answer) → Stepped (saved s) a → Stepped s a
saved-stepped s a h = stepped-from s (saved s) a (save-reported s s.block) h

silent-stepped : (s : State) → Lawful s → Stepped s (silent s)
silent-stepped s h = kept-stepped s (silent s) (kept s s [] h refl tt)

sync-stepped : (s : State) → Lawful s → Stepped s (sync s)
sync-stepped s h =
    let t : State = record s { skipping = false } in
    closing-stepped s (commit_outside t s.block) [] (commit_outside-lawful t s.block (made _ h.defaults h.current h.reported h.saved h.statements h.portals h.tables h.lasting h.cursors)) (commit_outside-reported t s.block) tt

terminated-stepped : (s : State) → Lawful s → Stepped s (silent (record s { ended = true }))
terminated-stepped s h = kept-stepped s _ (kept s _ [] (made _ h.defaults h.current h.reported h.saved h.statements h.portals h.tables h.lasting h.cursors) refl tt)

abbrev IsParse : Parse → Type 0
IsParse p = IsSource p.query × length p.oids ≤ 65535

read-parse : (body : List ℕ) (r : Result Parse ViewError) → 4 + length body ≤ MAX_FRAME → ParseTold body r → OfOk IsParse (reading_body r)
read-parse body (Ok p) l h = ((h.0, omega (arith, h.1)), h.2)
read-parse body (Err v) l h = tt

module _ (cat : CatalogueOf) (lawful_tables : AllByRecursion IsTable cat.tables) where
  query-stepped : (s : State) (struck : Bool) (body : List ℕ) (r : Result Text ViewError) → 4 + length body ≤ MAX_FRAME → Lawful s → QueryTold body r → Stepped s (step_query cat s struck r)
  query-stepped s struck body (Err v) l h k = end_query-stepped s (Err MalformedMessage) h tt
  query-stepped s true body (Ok t) l h k = end_query-stepped s (Err Cancelled) h tt
  query-stepped s false body (Ok t) l h k =
      let g = without_unnamed-lawful s h in
      let source : IsSource t = (k.0, omega (arith, k.1)) in
      stepped-from s (without_unnamed s) (end_query (without_unnamed s) (query cat (without_unnamed s) t)) refl (end_query-stepped (without_unnamed s) (query cat (without_unnamed s) t) g (query-kept cat lawful_tables (without_unnamed s) t g source))

  body-stepped : {A : Type 0} (P : A → Type 0) (s : State) (o : Result A ViewError) (f : A → Result Answer Cause) → Lawful s → OfOk P (reading_body o) → ((x : A) → P x → AllKept s (f x)) → Stepped s (settle s (bound (reading_body o) f))
  body-stepped P s o f h k g = settle-stepped s (bound (reading_body o) f) h (bound-kept P s (reading_body o) f k g)

  executed-kept : (s : State) (struck : Bool) (e : Text × ℕ) → Lawful s → AllKept s (executed cat s struck e)
  executed-kept s true e h = tt
  executed-kept s false e h = execute-kept cat lawful_tables s e.0 e.1 h

  answer-stepped : (s : State) (struck : Bool) (a : Asked) (body : List ℕ) → 4 + length body ≤ MAX_FRAME → AreBytes body → Lawful s → Stepped s (answer_to cat s struck a body)
  answer-stepped s struck Terminate body l b h = terminated-stepped s h
  answer-stepped s struck Sync body l b h = sync-stepped s h
  answer-stepped s struck Query body l b h = saved-stepped s _ (query-stepped (saved s) struck body (query_of body) l (save-lawful s s.block h) (query-told body b))
  answer-stepped s struck FunctionCall body l b h = saved-stepped s _ (end_query-stepped (saved s) (Err NotSupported) (save-lawful s s.block h) tt)
  answer-stepped s struck ParseMessage body l b h = let g = save-lawful s s.block h in saved-stepped s _ (body-stepped IsParse (saved s) (parse_of body) _ g (read-parse body (parse_of body) l (parse-told body b)) (λ p k. parse-kept cat lawful_tables (saved s) p g k.0 k.1))
  answer-stepped s struck BindMessage body l b h = let g = save-lawful s s.block h in saved-stepped s _ (body-stepped Any (saved s) (bind_of body) _ g (any (reading_body (bind_of body))) (λ x k. bind-kept cat lawful_tables (saved s) x g))
  answer-stepped s struck Describe body l b h = let g = save-lawful s s.block h in saved-stepped s _ (body-stepped Any (saved s) (target_of body) _ g (any (reading_body (target_of body))) (λ x k. describe-kept cat lawful_tables (saved s) x g))
  answer-stepped s struck Close body l b h = let g = save-lawful s s.block h in saved-stepped s _ (body-stepped Any (saved s) (target_of body) _ g (any (reading_body (target_of body))) (λ x k. close-kept (saved s) x g))
  answer-stepped s struck Execute body l b h = let g = save-lawful s s.block h in saved-stepped s _ (body-stepped Any (saved s) (execute_of body) _ g (any (reading_body (execute_of body))) (λ x k. executed-kept (saved s) struck x g))
  answer-stepped s struck Password body l b h = settle-stepped s (Err MalformedMessage) h tt
  answer-stepped s struck Nothing body l b h = silent-stepped s h

  skipping-stepped : (s : State) (a : Asked) → Lawful s → Stepped s (answer_skipping s a)
  skipping-stepped s Terminate h = terminated-stepped s h
  skipping-stepped s Sync h = sync-stepped s h
  skipping-stepped s Query h = silent-stepped s h
  skipping-stepped s FunctionCall h = silent-stepped s h
  skipping-stepped s ParseMessage h = silent-stepped s h
  skipping-stepped s BindMessage h = silent-stepped s h
  skipping-stepped s Describe h = silent-stepped s h
  skipping-stepped s Close h = silent-stepped s h
  skipping-stepped s Execute h = silent-stepped s h
  skipping-stepped s Password h = silent-stepped s h
  skipping-stepped s Nothing h = silent-stepped s h

  choose : (s : State) (b : Bool) (x y : Answer) → Stepped s x → Stepped s y → Stepped s (if b then x else y)
  choose s true x y h k = h
  choose s false x y h k = k

  pub step-stepped : (s : State) (struck : Bool) (f : FrameOf) → IsSent f → Lawful s → Stepped s (step cat s struck f)
  unfolding step
  step-stepped s struck f k h =
      choose s s.ended _ _ (silent-stepped s h) (
      choose s s.skipping _ _ (skipping-stepped s (asked f.kind) h) (
      answer-stepped s struck (asked f.kind) f.body k.whole.size k.bytes h))

-- ---- reached states

begun-lawful : (d : Values) → AreSettings d → Lawful (begun d)
begun-lawful d h = made _ h h (reported-settings d h) tt tt tt tt h tt

catalogue-tables : (cat : CatalogueOf) → IsLawfulCatalogue cat → AllByRecursion IsTable cat.tables
catalogue-tables cat h = all-as _ IsTable lawful-table cat.tables h.tables

pub reached-catalogue : (cat : CatalogueOf) (key : StartKeyOf) (s : State) → Reaches cat key s → IsLawfulCatalogue cat
reached-catalogue cat key s (begins l k e) = l
reached-catalogue cat key _ (steps {s} struck f r h) = reached-catalogue cat key s r

pub reached-key : (cat : CatalogueOf) (key : StartKeyOf) (s : State) → Reaches cat key s → HasKey cat key s
reached-key cat key s (begins l k e) = record { origin = s; is_fresh = e; defaults = refl }
reached-key cat key _ (steps {s} struck f r h) = step-has_key cat key s struck f (reached-key cat key s r)

parameter-pair : (p : Text × Text) → IsLawfulParameter p → IsPair p
parameter-pair p h = (h.0.value, h.1)

pub origin-settings : (cat : CatalogueOf) (key : StartKeyOf) (s : State) → IsLawfulCatalogue cat → IsLawfulKey key → fresh cat key ≡ Ok s → AreSettings s.defaults
origin-settings cat key s l k e = fresh-settings cat key s l.version (all-as IsLawfulParameter IsPair parameter-pair key.parameters k.parameters) e

pub reached-lawful : (cat : CatalogueOf) (key : StartKeyOf) (s : State) → Reaches cat key s → Lawful s
reached-lawful cat key s (begins l k e) = subst (λ (t : State). Lawful t) (sym (fresh-begun cat key s e)) (begun-lawful s.defaults (origin-settings cat key s l k e))
reached-lawful cat key _ (steps {s} struck f r h) = (step-stepped cat (catalogue-tables cat (reached-catalogue cat key s r)) s struck f h (reached-lawful cat key s r)).lawful

reached-stepped : (cat : CatalogueOf) (key : StartKeyOf) (s : State) (struck : Bool) (f : FrameOf) → Reaches cat key s → IsSent f → Stepped s (step cat s struck f)
reached-stepped cat key s struck f r k = step-stepped cat (catalogue-tables cat (reached-catalogue cat key s r)) s struck f k (reached-lawful cat key s r)

pub reached-frames : (cat : CatalogueOf) (key : StartKeyOf) (s : State) (struck : Bool) (f : FrameOf) → Reaches cat key s → IsSent f → AllByRecursion (IsFrame Server MAX_FRAME) (step cat s struck f).replies
reached-frames cat key s struck f r k = (reached-stepped cat key s struck f r k).frames

pub reached-reports : (cat : CatalogueOf) (key : StartKeyOf) (s : State) (struck : Bool) (f : FrameOf) → Reaches cat key s → IsSent f → AllByRecursion IsReportIf (step cat s struck f).replies
reached-reports cat key s struck f r k = (reached-stepped cat key s struck f r k).reports

pub reached-told : (cat : CatalogueOf) (key : StartKeyOf) (s : State) (struck : Bool) (f : FrameOf) → Reaches cat key s → IsSent f → (step cat s struck f).next.reported ≡ after_replies s.reported (step cat s struck f).replies
reached-told cat key s struck f r k = (reached-stepped cat key s struck f r k).told
