-- A CancelRequest that is passed on.
use Rattle.std.proofs.Common.{◌≡◌, ◌⊎◌, ℕ, List, [], inl, inr, refl, sym, ap, ◌∙◌, subst, append-nil}
use Rattle.std.proofs.lemmas.Bool.{true≢false}
use Rattle.message_view.specs.declared.KeyWord.{KeyWord}
use Rattle.message_view.specs.declared.views.KeyView.{KeyView}
use Rattle.link_model.specs.Standing.{ClientFacts}
use Rattle.link_desk.specs.declared.answers.Cancelled.{Cancelled}
use Rattle.link_desk.specs.declared.answers.Cancelled.TheVariants as cancelled
use Rattle.link_desk.specs.declared.calls.Holder.{Holder}
use Rattle.link_desk.specs.Passes.{PassOf, after_cancel, cancelled_by}
use Rattle.login_core.specs.Talk.End.{Stopped}
use Rattle.login_core.specs.Dialogue.{Cancelling, Dialogue, Rows, login_among}
use Rattle.login_core.specs.Logins.{LoginView, rows_of}
use Rattle.login_run.specs.Laws.{CancellingRunsHaveAsked}
use Rattle.login_run.specs.Runs.{IsRun, IsSameLogin, RunView}
use Rattle.login_run.specs.Runs as runs
use Rattle.login_run.specs.declared.run.LoginTurn.{LoginTurn}
use Rattle.login_run.specs.declared.run.LoginTurn.TheVariants as turn
use Rattle.pool_serve.specs.Cancels.{IsPassedOn}
use Rattle.pool_serve.specs.Serving.{HasStopped}
use Rattle.pool_serve.specs.Shares.{Settles}
use Rattle.pool_serve.specs.Stays.{IsDismissed, IsUntouched}
use Rattle.pool_serve.proofs.Logging.{same_rows}

passed_on : CancellingRunsHaveAsked → (v : LoginView) (first run : RunView) (key : KeyView) (after : ClientFacts) (p q : PassOf) (h k : Holder) (answer : Cancelled) → first.login ≡ v → IsSameLogin first run → IsRun run → run.phase ≡ runs.Cancelling key → after ≡ run.client → q ≡ after_cancel p answer → k ≡ cancelled_by key h answer
    → IsPassedOn v p q h k after
passed_on law v first run key after p q h k answer is same i phase e counted holder =
    let x = law run key i phase in
    let said : Dialogue = record { pieces = x.pieces; ended = Stopped (Cancelling key) } in
    let heard : login_among (rows_of run.login) run.login.word x.heard ≡ said = subst (λ (bytes : List ℕ). login_among (rows_of run.login) run.login.word bytes ≡ said) (append-nil x.heard) (x.asked []) in
    let first_heard : login_among (rows_of first.login) first.login.word x.heard ≡ said =
    subst (λ (w : KeyWord). login_among (rows_of first.login) w x.heard ≡ said) same.word (subst (λ (rows : Rows). login_among rows run.login.word x.heard ≡ said) (same_rows first run same) heard) in
    record {
      key = key;
      heard = x.heard;
      pieces = x.pieces;
      asked = subst (λ (w : LoginView). login_among (rows_of w) w.word x.heard ≡ said) is first_heard;
      taken = λ t. ap (λ (c : ClientFacts). c.taken) e ∙ x.taken (sym (ap (λ (c : ClientFacts). c.tells) e) ∙ t);
      given = λ t. ap (λ (c : ClientFacts). c.given) e ∙ x.given (sym (ap (λ (c : ClientFacts). c.tells) e) ∙ t);
      answer = answer;
      counted = counted;
      holder = holder;
    }

cancelled_settles : (p q : PassOf) (answer : Cancelled) → q ≡ after_cancel p answer → Settles p q
cancelled_settles p q answer e = subst (Settles p) (sym e) (by answer)
  where
    by : (a : Cancelled) → Settles p (after_cancel p a)
    by (cancelled.Strike strike) = λ x. record { leases = refl; clients = refl }
    by cancelled.Nobody = λ x. record { leases = refl; clients = refl }
    by cancelled.Last = λ x. absurd (true≢false x)

untouched_settles : (p q : PassOf) (h k : Holder) → IsUntouched p q h k → Settles p q
untouched_settles p q h k u = subst (Settles p) (sym u.counted) (λ x. record { leases = refl; clients = refl })

-- ---- a login that comes to no arrival

pub dismissed_settles : (t : LoginTurn) (p q : PassOf) (h k : Holder) → IsDismissed t p q h k → Settles p q
dismissed_settles (turn.Cancel key) p q h k (answer, (counted, holder)) = cancelled_settles p q answer counted
dismissed_settles turn.Again p q h k u = untouched_settles p q h k u
dismissed_settles turn.Wait p q h k u = untouched_settles p q h k u
dismissed_settles turn.Arrived p q h k u = untouched_settles p q h k u
dismissed_settles turn.Passed p q h k u = untouched_settles p q h k u
dismissed_settles turn.Console p q h k u = untouched_settles p q h k u
dismissed_settles turn.Over p q h k u = untouched_settles p q h k u

-- its client and its lease are those of before
pub record KeepsFree (h k : Holder) : Type 0 where
  pub client : k.client ≡ h.client
  pub lease : k.lease ≡ h.lease

untouched_keeps : (p q : PassOf) (h k : Holder) → IsUntouched p q h k → KeepsFree h k
untouched_keeps p q h k u = record { client = ap (λ (x : Holder). x.client) u.holder; lease = ap (λ (x : Holder). x.lease) u.holder }

pub dismissed_keeps : (t : LoginTurn) (p q : PassOf) (h k : Holder) → IsDismissed t p q h k → KeepsFree h k
dismissed_keeps (turn.Cancel key) p q h k (answer, (counted, holder)) = record { client = ap (λ (x : Holder). x.client) holder; lease = ap (λ (x : Holder). x.lease) holder }
dismissed_keeps turn.Again p q h k u = untouched_keeps p q h k u
dismissed_keeps turn.Wait p q h k u = untouched_keeps p q h k u
dismissed_keeps turn.Arrived p q h k u = untouched_keeps p q h k u
dismissed_keeps turn.Passed p q h k u = untouched_keeps p q h k u
dismissed_keeps turn.Console p q h k u = untouched_keeps p q h k u
dismissed_keeps turn.Over p q h k u = untouched_keeps p q h k u

pub dismissed_is_over : {O : Type 0} → CancellingRunsHaveAsked → (v : LoginView) (first run : RunView) (t : LoginTurn) (after : ClientFacts) (p q : PassOf) (h k : Holder) → first.login ≡ v → IsSameLogin first run → IsRun run → HasStopped run t → after ≡ run.client → IsDismissed t p q h k
    → IsUntouched p q h k ⊎ IsPassedOn v p q h k after ⊎ O
dismissed_is_over law v first run (turn.Cancel key) after p q h k is same i stopped e (answer, (counted, holder)) = inr (inl (passed_on law v first run key after p q h k answer is same i stopped.0 e counted holder))
dismissed_is_over law v first run turn.Again after p q h k is same i stopped e u = inl u
dismissed_is_over law v first run turn.Wait after p q h k is same i stopped e u = inl u
dismissed_is_over law v first run turn.Arrived after p q h k is same i stopped e u = inl u
dismissed_is_over law v first run turn.Passed after p q h k is same i stopped e u = inl u
dismissed_is_over law v first run turn.Console after p q h k is same i stopped e u = inl u
dismissed_is_over law v first run turn.Over after p q h k is same i stopped e u = inl u
