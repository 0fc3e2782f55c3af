-- A session keeps its defaults, and DISCARD ALL makes it fresh again.
use Rattle.session_values.specs.State.{is_held, started_over}
use Rattle.std.proofs.Common.{◌≡◌, ℕ, List, [], ◌∷◌, ◌++◌, Result, Ok, Err, refl, sym, ap, ◌∙◌, Bool, true, false}
use Rattle.std.specs.Prelude.{if◌then◌else◌, not, ◌&&◌, codes}
use Rattle.std.specs.List.{list_all}
use Rattle.std.proofs.lemmas.Bool.{true≢false}
use Rattle.message_view.specs.declared.kinds.TheConstants.{IDLE}
use Rattle.frame_view.specs.Frames.{FrameOf}
use Rattle.message_view.specs.declared.ViewError.{ViewError}
use Rattle.message_view.specs.Messages.{command_complete, ready_for_query}
use Rattle.message_view.specs.Reading.{query_of, parse_of, bind_of, target_of, execute_of}
use Rattle.mini_sql.specs.Words.{Text}
use Rattle.session_values.specs.declared.block.Block.{Block}
use Rattle.session_values.specs.declared.block.Block.TheVariants.{Outside, Inside, Failed}
use Rattle.session_values.specs.declared.cause.Cause.{Cause}
use Rattle.session_values.specs.declared.cause.Cause.TheVariants.{MalformedMessage, NotSupported, NoDatabase, Cancelled}
use Rattle.session_values.specs.Parameters.{Values, reported_parameters, defaults}
use Rattle.session_values.specs.State.{State, CatalogueOf, StartKeyOf, Answer, answers, bound, set_all, begun, started, fresh, has_text, commit_outside, reports_from}
use Rattle.session_values.specs.Extended.{settle}
use Rattle.session_values.specs.Step.{Asked, Terminate, Sync, Query, FunctionCall, ParseMessage, BindMessage, Describe, Close, Execute, Password, Nothing, asked, answer_to, answer_skipping, is_statement, silent, step, step_query, end_query, saved, without_unnamed, reading_body, query}
use Rattle.session_laws.specs.Laws.{discard_all, discard_replies, IsAtRest, HasKey, StruckDiscardAllIsRefused, OnlyStatementsAreStruck}
use Rattle.session_laws.proofs.ReadyLast.{AllFine, bound-fine, query-fine, parse-fine, bind-fine, describe-fine, close-fine, executed-fine, save-same, roll_back-same}
use Rattle.session_laws.proofs.Bodies.{read-discard_all}
use Rattle.session_laws.proofs.Spelled.{spells-discard_all}

-- ---- defaults

commit-same : (t : State) (b : Block) → (commit_outside t b).defaults ≡ t.defaults
commit-same t Outside = refl
commit-same t Inside = refl
commit-same t Failed = refl

end-same : (s : State) (r : Result Answer Cause) → AllFine s r → (end_query s r).next.defaults ≡ s.defaults
end-same s (Ok a) f = commit-same a.next a.next.block ∙ f.defaults
end-same s (Err c) f = (roll_back-same s s.saved).2

settle-same : (s : State) (r : Result Answer Cause) → AllFine s r → (settle s r).next.defaults ≡ s.defaults
settle-same s (Ok a) f = f.defaults
settle-same s (Err c) f = (roll_back-same s s.saved).2

module _ (cat : CatalogueOf) (s : State) where
  query-same : (struck : Bool) (t : Result Text ViewError) → (step_query cat s struck t).next.defaults ≡ s.defaults
  query-same struck (Err v) = end-same s (Err MalformedMessage) tt
  query-same true (Ok t) = end-same s (Err Cancelled) tt
  query-same false (Ok t) = end-same (without_unnamed s) (query cat (without_unnamed s) t) (query-fine cat (without_unnamed s) t)

  body-same : {A : Type 0} (o : Result A ViewError) (f : A → Result Answer Cause) → ((x : A) → AllFine s (f x)) → (settle s (bound (reading_body o) f)).next.defaults ≡ s.defaults
  body-same o f h = settle-same s (bound (reading_body o) f) (bound-fine s (reading_body o) f h)

answer-same : (cat : CatalogueOf) (s : State) (struck : Bool) (a : Asked) (body : List ℕ) → (answer_to cat s struck a body).next.defaults ≡ s.defaults
answer-same cat s struck Terminate body = refl
answer-same cat s struck Sync body = commit-same (record s { skipping = false }) s.block
answer-same cat s struck Query body = query-same cat (saved s) struck (query_of body) ∙ (save-same s s.block).2
answer-same cat s struck FunctionCall body = end-same (saved s) (Err NotSupported) tt ∙ (save-same s s.block).2
answer-same cat s struck ParseMessage body = body-same cat (saved s) (parse_of body) _ (parse-fine cat (saved s)) ∙ (save-same s s.block).2
answer-same cat s struck BindMessage body = body-same cat (saved s) (bind_of body) _ (bind-fine cat (saved s)) ∙ (save-same s s.block).2
answer-same cat s struck Describe body = body-same cat (saved s) (target_of body) _ (describe-fine cat (saved s)) ∙ (save-same s s.block).2
answer-same cat s struck Close body = body-same cat (saved s) (target_of body) _ (close-fine (saved s)) ∙ (save-same s s.block).2
answer-same cat s struck Execute body = body-same cat (saved s) (execute_of body) _ (executed-fine cat (saved s) struck) ∙ (save-same s s.block).2
answer-same cat s struck Password body = settle-same s (Err MalformedMessage) tt
answer-same cat s struck Nothing body = refl

skipping-same : (s : State) (a : Asked) → (answer_skipping s a).next.defaults ≡ s.defaults
skipping-same s Terminate = refl
skipping-same s Sync = commit-same (record s { skipping = false }) s.block
skipping-same s Query = refl
skipping-same s FunctionCall = refl
skipping-same s ParseMessage = refl
skipping-same s BindMessage = refl
skipping-same s Describe = refl
skipping-same s Close = refl
skipping-same s Execute = refl
skipping-same s Password = refl
skipping-same s Nothing = refl

choose : (s : State) (b : Bool) (x y : Answer) → x.next.defaults ≡ s.defaults → y.next.defaults ≡ s.defaults → (if b then x else y).next.defaults ≡ s.defaults
choose s true x y h k = h
choose s false x y h k = k

pub step-same : (cat : CatalogueOf) (s : State) (struck : Bool) (f : FrameOf) → (step cat s struck f).next.defaults ≡ s.defaults
unfolding step
step-same cat s struck f =
    choose s s.ended _ _ refl (
    choose s s.skipping _ _ (skipping-same s (asked f.kind)) (
    answer-same cat s struck (asked f.kind) f.body))

pub step-has_key : (cat : CatalogueOf) (key : StartKeyOf) (s : State) (struck : Bool) (f : FrameOf) → HasKey cat key s → HasKey cat key (step cat s struck f).next
step-has_key cat key s struck f h = record { origin = h.origin; is_fresh = h.is_fresh; defaults = step-same cat s struck f ∙ h.defaults }

-- ---- what a cancel strikes

by-asked : (cat : CatalogueOf) (s : State) (a : Asked) (body : List ℕ) → is_statement a ≡ false → answer_to cat s true a body ≡ answer_to cat s false a body
by-asked cat s Terminate body h = refl
by-asked cat s Sync body h = refl
by-asked cat s Query body h = absurd (true≢false h)
by-asked cat s FunctionCall body h = refl
by-asked cat s ParseMessage body h = refl
by-asked cat s BindMessage body h = refl
by-asked cat s Describe body h = refl
by-asked cat s Close body h = refl
by-asked cat s Execute body h = absurd (true≢false h)
by-asked cat s Password body h = refl
by-asked cat s Nothing body h = refl

unless_other : (b : Bool) (x y z : Answer) (other : Bool) → (not b && other) ≡ false → (other ≡ false → y ≡ z) → (if b then x else y) ≡ (if b then x else z)
unless_other true x y z other h f = refl
unless_other false x y z other h f = f h

pub only-statements : OnlyStatementsAreStruck
unfolding step
only-statements cat s f h =
    unless_other s.ended (silent s) _ _ (not s.skipping && is_statement (asked f.kind)) h (λ k.
    unless_other s.skipping (answer_skipping s (asked f.kind)) _ _ (is_statement (asked f.kind)) k (by-asked cat s (asked f.kind) f.body))

-- ---- a fresh session

abbrev ok : State → Result State Cause
ok s = Ok s

pub ok-inj : (s t : State) → ok s ≡ ok t → s ≡ t
ok-inj s t e = cc

-- what is fresh has begun with its defaults
pub started-begun : (r : Result Values Cause) (s : State) → started r ≡ Ok s → s ≡ begun s.defaults
started-begun (Ok vs) s e = let e' : begun vs ≡ s = ok-inj (begun vs) s e in sym e' ∙ ap (λ (t : State). begun t.defaults) e'
started-begun (Err c) s e = absurd cc

pub fresh-begun : (cat : CatalogueOf) (key : StartKeyOf) (s : State) → fresh cat key ≡ Ok s → s ≡ begun s.defaults
unfolding fresh started_over
fresh-begun cat key s e = by_test (has_text cat.databases key.dbname) e
  where
    by_test : (b : Bool) → (if b then started (set_all (defaults cat.version) (defaults cat.version) key.parameters) else Err NoDatabase) ≡ Ok s → s ≡ begun s.defaults
    by_test true h = started-begun (set_all (defaults cat.version) (defaults cat.version) key.parameters) s h
    by_test false h = absurd cc

begun-at_rest : (s : State) (d : Values) → s ≡ begun d → IsAtRest s
begun-at_rest s d e = record { not_ended = ap (λ (t : State). t.ended) e; not_skipping = ap (λ (t : State). t.skipping) e; outside = ap (λ (t : State). t.block) e; not_saved = ap (λ (t : State). t.saved) e; lasts = ap (λ (t : State). t.lasting) e ∙ sym (ap (λ (t : State). t.current) e); holds = ap (λ (t : State). list_all is_held t.cursors) e }

pub fresh-at_rest : (cat : CatalogueOf) (key : StartKeyOf) (s : State) → fresh cat key ≡ Ok s → IsAtRest s
fresh-at_rest cat key s e = begun-at_rest s s.defaults (fresh-begun cat key s e)

-- ---- DISCARD ALL

step-discard_all : (cat : CatalogueOf) (s : State) → IsAtRest s
    → step cat s false discard_all ≡ answers (begun s.defaults) (command_complete (codes "DISCARD ALL") ∷ (reports_from reported_parameters s.defaults s.reported ++ ready_for_query IDLE ∷ []))
unfolding step
step-discard_all cat s r =
    let e = r.not_ended in let k = r.not_skipping in let o = r.outside in let v = r.not_saved in
    rw (e, k, read-discard_all, o, v, spells-discard_all) refl

pub discard-struck : StruckDiscardAllIsRefused
unfolding step
discard-struck cat s r =
    let e = r.not_ended in let k = r.not_skipping in
    rw (e, k, read-discard_all) refl

pub discard-fresh : (cat : CatalogueOf) (key : StartKeyOf) (s origin : State) → HasKey cat key s → fresh cat key ≡ Ok origin → IsAtRest s → step cat s false discard_all ≡ answers origin (discard_replies origin s)
discard-fresh cat key s origin k e r =
    let same : k.origin ≡ origin = ok-inj k.origin origin (sym k.is_fresh ∙ e) in
    let d : s.defaults ≡ origin.defaults = k.defaults ∙ ap (λ (t : State). t.defaults) same in
    step-discard_all cat s r
    ∙ ap (λ (v : Values). answers (begun v) (command_complete (codes "DISCARD ALL") ∷ (reports_from reported_parameters v s.reported ++ ready_for_query IDLE ∷ []))) d
    ∙ ap (λ (t : State). answers t (discard_replies origin s)) (sym (fresh-begun cat key origin e))
