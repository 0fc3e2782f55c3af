-- An answer that goes on to reports and ReadyForQuery.
use Rattle.std.proofs.Common.{◌≡◌, ℕ, List, ◌++◌, Result, Ok, Err, refl, sym, ap, subst, ◌∙◌, append_assoc}
use Rattle.std.specs.Prelude.{OnOk}
use Rattle.std.specs.List.{flat_map}
use Rattle.std.proofs.lemmas.List.Concat.{flat_map-append}
use Rattle.frame_view.specs.Frames.{spelling}
use Rattle.session_values.specs.declared.cause.Cause.{Cause}
use Rattle.session_values.specs.declared.stop.Stop.TheVariants.{Refused}
use Rattle.mini_sql.specs.Statements.{Statement}
use Rattle.mini_sql.specs.Words.{Text}
use Rattle.session_values.specs.Runs.{Ran}
use Rattle.session_values.specs.State.{State, Answer, and_then, answers, bound, commit_outside, ready}
use Rattle.session_values.specs.Step.{end_query, saved}
use Rattle.session_values.specs.Extended.{execute_outcome, execute_ran, refused, settle}
use Rattle.session_values.specs.Answers.{Gave, Gives, Performs}

on_ok : {E : Type 0} {P Q : Type 0} (r : Result (Unit {0}) E) → (P → Q) → OnOk r P → OnOk r Q
on_ok (Ok u) f p = f p
on_ok (Err e) f p = tt

-- first the replies of an answer, and then what follows from the state after it
Gave-then : (a : Answer) (f : State → Answer) (mid new : State) (before between after : List ℕ) → mid ≡ a.next → between ≡ before ++ flat_map spelling a.replies → Gave new between after (f mid) → Gave new before after (and_then a f)
Gave-then a f mid new before between after s w g = record {
  next = g.next ∙ ap (λ (t : State). (f t).next) s;
  written = g.written ∙ ap (λ (b : List ℕ). b ++ flat_map spelling (f mid).replies) w ∙ append_assoc before (flat_map spelling a.replies) (flat_map spelling (f mid).replies)
      ∙ ap (λ (b : List ℕ). before ++ b) (sym (flat_map-append spelling a.replies (f mid).replies)) ∙ ap (λ (t : State). before ++ flat_map spelling (a.replies ++ (f t).replies)) s;
}

-- a portal's statement that ran, and what it gave
pub ran_executes : (old new : State) (before between after : List ℕ) (n : Text) (st : Statement) (limit : ℕ) (x : Result Ran Cause) (r : Ran)
    → x ≡ Ok r → between ≡ before ++ flat_map spelling r.notices → Gave new between after (execute_outcome r.after n st limit r.outcome)
    → Gives (Ok tt) old new before after (bound x (λ q. Ok (execute_ran n st limit q)))
ran_executes old new before between after n st limit x r e w g =
    let all = Gave-then (answers r.after r.notices) (λ s. execute_outcome s n st limit r.outcome) r.after new before between after refl w g in
    subst (λ (y : Result Ran Cause). Gives (Ok tt) old new before after (bound y (λ q. Ok (execute_ran n st limit q)))) (sym e) (all.next, all.written)

-- a Query that ran
pub query_ends : {E : Type 0} (old mid new : State) (before between after : List ℕ) (x : Result Answer Cause) (r : Result (Unit {0}) E)
    → Gives (Ok tt) old mid before between x → OnOk r (Gave new between after (ready (commit_outside mid mid.block))) → OnOk r (Gave new before after (end_query old x))
query_ends old mid new before between after (Ok a) r (s, w) g = on_ok r (Gave-then a (λ t. ready (commit_outside t t.block)) mid new before between after s w) g
query_ends old mid new before between after (Err d) r ran g = absurd ran

-- a Query that was refused
pub query_fails : {E : Type 0} (old mid new : State) (before between after : List ℕ) (c : Cause) (x : Result Answer Cause) (r : Result (Unit {0}) E)
    → Gives (Err c) old mid before between x → OnOk r (Gave new between after (end_query mid (Err c))) → OnOk r (Gave new before after (end_query old x))
query_fails old mid new before between after c (Ok a) r ran g = absurd ran
query_fails old mid new before between after c (Err d) r (e, s, w) g = rw (e, ← s, ← w) g

-- an extended message that was carried out, before which work was saved
pub extended_done : (start old new : State) (before after : List ℕ) (x : State → Result Answer Cause)
    → old ≡ saved start → Performs (Ok tt) old new before after (x old) → Gave new before after (settle (saved start) (x (saved start)))
extended_done start old new before after x e g = rw (← e) (done-at old new before after (x old) g)
  where
    done-at : (old new : State) (before after : List ℕ) (y : Result Answer Cause) → Performs (Ok tt) old new before after y → Gave new before after (settle old y)
    done-at old new before after (Ok a) (s, w) = record { next = s; written = w }
    done-at old new before after (Err d) ran = absurd ran

-- one that was refused
pub extended_refused : {E : Type 0} (c : Cause) (start old mid new : State) (before between after : List ℕ) (x : State → Result Answer Cause) (r : Result (Unit {0}) E)
    → old ≡ saved start → Performs (Err (Refused c)) old mid before between (x old) → OnOk r (Gave new between after (refused mid c)) → OnOk r (Gave new before after (settle (saved start) (x (saved start))))
extended_refused c start old mid new before between after x r e ran g = rw (← e) (refused-at c old mid new before between after (x old) r ran g)
  where
    refused-at : {E : Type 0} (c : Cause) (old mid new : State) (before between after : List ℕ) (y : Result Answer Cause) (r : Result (Unit {0}) E)
        → Performs (Err (Refused c)) old mid before between y → OnOk r (Gave new between after (refused mid c)) → OnOk r (Gave new before after (settle old y))
    refused-at c old mid new before between after (Ok a) r ran g = absurd ran
    refused-at c old mid new before between after (Err d) r (e, s, w) g = rw (e, ← s, ← w) g
