-- How a client's time at the desk ends.
use Rattle.std.proofs.Common.{◌≡◌, inl, inr, ℕ, refl, sym, ◌∙◌, arith, subst, None}
use Rattle.std.specs.Arc.{arc_value}
use Rattle.link_model.specs.Standing.{ClientFacts}
use Rattle.link_run.specs.Links.{LinkView}
use Rattle.link_desk.specs.declared.calls.Call.{Call}
use Rattle.link_desk.specs.declared.calls.Call.TheVariants as call
use Rattle.link_desk.specs.declared.calls.Holder.{Holder}
use Rattle.link_desk.specs.Homes.{HomeOf, IsAtHome}
use Rattle.link_desk.specs.Passes.{PassOf, one_granted, one_other, without_lease}
use Rattle.login_core.specs.Logins.{LoginView}
use Rattle.login_run.specs.Runs.{IsSameLogin, RunView}
use Rattle.pool_serve.specs.Backs.{IsBackOrLost, IsFreed}
use Rattle.pool_serve.specs.Causes.{AtAsking, AtLease, AtWait}
use Rattle.pool_serve.specs.Endings.{Came, Frees, HasEnded, HasLeased, HasRelayed, IsUnopened, Traces, refusal_in}
use Rattle.pool_serve.specs.Stays.{CameIn, IsGuestOf}
use Rattle.pool_serve.specs.declared.ending.Ending.{Ending}
use Rattle.pool_serve.specs.declared.ending.Ending.TheVariants as ending
use Rattle.pool_serve.specs.declared.logged_in.LoggedIn.{LoggedIn}
use Rattle.pool_serve.proofs.Causing.{queued_traces}
use Rattle.pool_serve.proofs.Freeing.{freed}

-- ---- a lease that has begun

pub relayed_frees : (link : LinkView) (g : LoggedIn) (before after : ClientFacts) (h k : Holder) (e : Ending) → HasRelayed link g before after e → IsBackOrLost h k → Frees h k e
relayed_frees link g before after h k (ending.Relayed r) x b = b
relayed_frees link g before after h k ending.Memory x b = inl b
relayed_frees link g before after h k ending.Left x b = absurd x
relayed_frees link g before after h k (ending.Refused r) x b = absurd x
relayed_frees link g before after h k ending.Strange x b = absurd x
relayed_frees link g before after h k ending.Last x b = absurd x
relayed_frees link g before after h k ending.Unreached x b = absurd x
relayed_frees link g before after h k (ending.Unstarted cause) x b = absurd x
relayed_frees link g before after h k (ending.Managed r) x b = absurd x

pub relayed_came : (home : HomeOf) (link : LinkView) (g : LoggedIn) (before after : ClientFacts) (e : Ending) → HasRelayed link g before after e → IsAtHome home link → link.key ≡ arc_value g.key → Came home g before after e
relayed_came home link g before after (ending.Relayed r) x h k = record { link = link; at_home = h; key = k; relayed = x }
relayed_came home link g before after ending.Memory x h k = x
relayed_came home link g before after ending.Left x h k = absurd x
relayed_came home link g before after (ending.Refused r) x h k = absurd x
relayed_came home link g before after ending.Strange x h k = absurd x
relayed_came home link g before after ending.Last x h k = absurd x
relayed_came home link g before after ending.Unreached x h k = absurd x
relayed_came home link g before after (ending.Unstarted cause) x h k = absurd x
relayed_came home link g before after (ending.Managed r) x h k = absurd x

-- ---- a link that wasn't started

pub unopened_frees : (home : HomeOf) (g : LoggedIn) (h k : Holder) (e : Ending) → IsUnopened home g e → k ≡ without_lease call.StartFailed h → Frees h k e
unopened_frees home g h k ending.Unreached x b = freed call.StartFailed h k b
unopened_frees home g h k (ending.Unstarted cause) x b = freed call.StartFailed h k b
unopened_frees home g h k ending.Memory x b = inr (freed call.StartFailed h k b)
unopened_frees home g h k ending.Left x b = absurd x
unopened_frees home g h k (ending.Refused r) x b = absurd x
unopened_frees home g h k ending.Strange x b = absurd x
unopened_frees home g h k ending.Last x b = absurd x
unopened_frees home g h k (ending.Relayed r) x b = absurd x
unopened_frees home g h k (ending.Managed r) x b = absurd x

pub unopened_came : (home : HomeOf) (g : LoggedIn) (c : ClientFacts) (e : Ending) → IsUnopened home g e → Came home g c c e
unopened_came home g c ending.Unreached x = (x, refl)
unopened_came home g c (ending.Unstarted cause) x = (x, refl)
unopened_came home g c ending.Memory x = refl
unopened_came home g c ending.Left x = absurd x
unopened_came home g c (ending.Refused r) x = absurd x
unopened_came home g c ending.Strange x = absurd x
unopened_came home g c ending.Last x = absurd x
unopened_came home g c (ending.Relayed r) x = absurd x
unopened_came home g c (ending.Managed r) x = absurd x

-- ---- behind a grant

module _ (old h k : Holder) (client : h.client ≡ old.client) (refused : h.refused ≡ None) (found : h.found ≡ old.found) (struck : h.struck ≡ old.struck) where
  by_freed : (c : ℕ → Call) (e : Ending) → refusal_in e ≡ None → IsFreed c h k → HasLeased old k e
  by_freed c e none x = record { client = x.client ∙ client; lease = x.lease; refused = x.refused ∙ (refused ∙ sym none); found = x.found ∙ found; struck = x.struck ∙ struck }

  by_return : (e : Ending) → refusal_in e ≡ None → IsBackOrLost h k → HasLeased old k e
  by_return e none (inl x) = by_freed call.GiveBack e none x
  by_return e none (inr x) = by_freed call.Lost e none x

  pub leased_by : (e : Ending) → Frees h k e → HasLeased old k e
  leased_by ending.Strange x = by_freed call.Lost ending.Strange refl x
  leased_by ending.Last x = by_freed call.Lost ending.Last refl x
  leased_by ending.Unreached x = by_freed call.StartFailed ending.Unreached refl x
  leased_by (ending.Unstarted cause) x = by_freed call.StartFailed (ending.Unstarted cause) refl x
  leased_by (ending.Relayed r) x = by_return (ending.Relayed r) refl x
  leased_by ending.Memory (inl x) = by_return ending.Memory refl x
  leased_by ending.Memory (inr x) = by_freed call.StartFailed ending.Memory refl x
  leased_by ending.Left x = absurd x
  leased_by (ending.Refused r) x = absurd x
  leased_by (ending.Managed r) x = absurd x

granted_traces : (p q : PassOf) (h k : Holder) (e : Ending) → Frees h k e → Traces AtLease (one_granted p) q e → Traces AtWait p q e
granted_traces p q h k ending.Strange x (inl t) = inl t
granted_traces p q h k ending.Strange x (inr t) = inr (omega (arith, t.0), t.1)
granted_traces p q h k ending.Last x t = t
granted_traces p q h k ending.Unreached x t = (omega (arith, t.0), t.1)
granted_traces p q h k (ending.Unstarted cause) x t = (omega (arith, t.0), t.1)
granted_traces p q h k (ending.Relayed r) x t = omega (arith, t)
granted_traces p q h k ending.Memory x t = tt
granted_traces p q h k ending.Left x t = absurd x
granted_traces p q h k (ending.Refused r) x t = absurd x
granted_traces p q h k (ending.Managed r) x t = absurd x

pub granted_ended : (home : HomeOf) (g : LoggedIn) (p mid q : PassOf) (h k : Holder) (before after : ClientFacts) (e : Ending) → mid ≡ one_granted p → Frees h k e → HasEnded home g AtLease mid q before after e → HasEnded home g AtWait p q before after e
granted_ended home g p mid q h k before after e is f x = record { tells = x.tells; traces = granted_traces p q h k e f (subst (λ (m : PassOf). Traces AtLease m q e) is x.traces); came = x.came; serves = x.serves }

-- behind an asking that was queued
pub queued_ended : (home : HomeOf) (g : LoggedIn) (p mid q : PassOf) (before after : ClientFacts) (e : Ending) → mid ≡ one_other p → HasEnded home g AtWait mid q before after e → HasEnded home g AtAsking p q before after e
queued_ended home g p mid q before after e is x = record { tells = x.tells; traces = queued_traces p mid q e is x.traces; came = x.came; serves = x.serves }

-- ---- a logged_in of this login

pub came_in : (home : HomeOf) (v : LoginView) (g : LoggedIn) (before after : ClientFacts) (e : Ending) → IsGuestOf v g → Came home g before after e → CameIn home v after e
came_in home v g before after (ending.Relayed r) i x = record { logged_in = g; is_logged_in = i; before = before; lease = x }
came_in home v g before after (ending.Unstarted cause) i x = record { logged_in = g; is_logged_in = i; unstarted = x.0 }
came_in home v g before after ending.Left i x = tt
came_in home v g before after (ending.Refused r) i x = tt
came_in home v g before after ending.Memory i x = tt
came_in home v g before after ending.Strange i x = tt
came_in home v g before after ending.Last i x = tt
came_in home v g before after ending.Unreached i x = record { logged_in = g; is_logged_in = i; unreached = x.0 }
came_in home v g before after (ending.Managed r) i x = absurd x

-- the same of a login that went on
pub same_logged_in : (old new : RunView) (g : LoggedIn) → IsSameLogin old new → IsGuestOf new.login g → IsGuestOf old.login g
same_logged_in old new g s x = record { word = x.word ∙ s.word; settings = x.settings ∙ s.settings; users = x.users ∙ s.users }

pub same_came : (home : HomeOf) (old new : RunView) (after : ClientFacts) (e : Ending) → IsSameLogin old new → CameIn home new.login after e → CameIn home old.login after e
same_came home old new after (ending.Relayed r) s x = record { logged_in = x.logged_in; is_logged_in = same_logged_in old new x.logged_in s x.is_logged_in; before = x.before; lease = x.lease }
same_came home old new after (ending.Unstarted cause) s x = record { logged_in = x.logged_in; is_logged_in = same_logged_in old new x.logged_in s x.is_logged_in; unstarted = x.unstarted }
same_came home old new after ending.Left s x = tt
same_came home old new after (ending.Refused r) s x = tt
same_came home old new after ending.Memory s x = tt
same_came home old new after ending.Strange s x = tt
same_came home old new after ending.Last s x = tt
same_came home old new after ending.Unreached s x = record { logged_in = x.logged_in; is_logged_in = same_logged_in old new x.logged_in s x.is_logged_in; unreached = x.unreached }
same_came home old new after (ending.Managed r) s x = tt

-- the same of the login that it began with
pub came_first : (home : HomeOf) (v : LoginView) (old new : RunView) (after : ClientFacts) (e : Ending) → old.login ≡ v → IsSameLogin old new → CameIn home new.login after e → CameIn home v after e
came_first home v old new after e is s x = subst (λ (w : LoginView). CameIn home w after e) is (same_came home old new after e s x)
