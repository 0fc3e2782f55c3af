-- A link for a client, or why there is none.
use Rattle.std.proofs.Common.{◌≡◌, [], Result, Ok, Err, None, inr, true, refl, sym, ap, ◌∙◌, arith, subst}
use Rattle.std.specs.Prelude.{IfErr, IfOk}
use Rattle.std.proofs.lemmas.Bool.{true≢false}
use Rattle.link_desk.specs.declared.answers.Gone.{Gone}
use Rattle.link_desk.specs.declared.answers.Gone.TheVariants as gone
use Rattle.link_desk.specs.declared.calls.Call.TheVariants as call
use Rattle.link_desk.specs.declared.calls.Holder.{Holder}
use Rattle.link_desk.specs.Homes.{HomeOf}
use Rattle.link_desk.specs.Passes.{PassOf, after_loss, one_granted, one_other, without_lease}
use Rattle.pool_serve.specs.Again.{IsEndedFor, IsHeldBy, IsNotStarted, lacks_place}
use Rattle.pool_serve.specs.Causes.{AtAsking, AtLease, AtWait, HadLink, HasLost}
use Rattle.pool_serve.specs.Endings.{HasLeased, IsUnopened}
use Rattle.pool_serve.specs.Serving.{LetsIn, MayEnd, owed}
use Rattle.pool_serve.specs.Shares.{Ends, Evens}
use Rattle.pool_serve.specs.FinalMessages.{final_message_of}
use Rattle.pool_serve.specs.declared.ending.Ending.{Ending}
use Rattle.pool_serve.specs.declared.ending.Ending.TheVariants as ending
use Rattle.pool_serve.specs.declared.logged_in.LoggedIn.{LoggedIn}
use Rattle.pool_serve.proofs.Causing.{lost_by, unopened_fault, unopened_traces}
use Rattle.pool_serve.proofs.Freeing.{freed}
use Rattle.pool_serve.proofs.Leases.{granted_ended, leased_by, queued_ended, unopened_came, unopened_frees}
use Rattle.pool_serve.proofs.Telling.{nothing_more, none_ends}

granted_evens : (p mid q : PassOf) → mid ≡ one_granted p → Ends mid q → Evens p q
granted_evens p mid q is x =
    let y : Ends (one_granted p) q = subst (λ (m : PassOf). Ends m q) is x in
    record {
      stay = record { arrived = y.stay.arrived; left = y.stay.left };
      leases = λ e.
          let b = y.ended e in
          (b.0, omega (arith, y.granted, b.1));
    }

loss_ends : (p q : PassOf) (g : Gone) → q ≡ after_loss p g → Ends p q
loss_ends p q g e = subst (λ (x : PassOf). Ends p x) (sym e) (by g)
  where
    by : (g : Gone) → Ends p (after_loss p g)
    by gone.Done = record { stay = record { arrived = refl; left = refl }; granted = refl; others = omega arith; ended = λ e. (e, omega arith) }
    by gone.Last = record { stay = record { arrived = refl; left = refl }; granted = refl; others = omega arith; ended = λ e. absurd (true≢false e) }
    by gone.Stranger = record { stay = record { arrived = refl; left = refl }; granted = refl; others = omega arith; ended = λ e. absurd (true≢false e) }

-- ---- a link of another key was lent

module _ (home : HomeOf) (g : LoggedIn) (p mid q : PassOf) (h m k : Holder) (granted : mid ≡ one_granted p) (client : m.client ≡ h.client) (refused : m.refused ≡ None) (found : m.found ≡ h.found) (struck : m.struck ≡ h.struck) where
  strange_ended : HadLink AtLease mid q × HasLost mid q → k ≡ without_lease call.Lost m → IsEndedFor home g AtWait p q ending.Strange
  strange_ended lost f c = granted_ended home g p mid q m k c c ending.Strange granted (freed call.Lost m k f) (record {
    tells = refl;
    traces = inr lost;
    came = refl;
    serves = λ t l. nothing_more _ _ _ _ _ tt (none_ends (owed home.catalogue g [] []));
  })

  pub lent_leased : {A : Type 0} (r : Result A Ending) → IfErr r (λ e. e ≡ ending.Strange) → IfErr r (λ e. k ≡ without_lease call.Lost m) → IfErr r (λ e. HasLeased h k e)
  lent_leased (Ok l) is f = tt
  lent_leased (Err e) is f = subst (HasLeased h k) (sym is) (leased_by h m k client refused found struck ending.Strange (freed call.Lost m k f))

  pub lent_share : {A : Type 0} (r : Result A Ending) → IfErr r (λ e. Ends mid q) → IfErr r (λ e. Evens p q)
  lent_share (Ok l) x = tt
  lent_share (Err e) x = granted_evens p mid q granted x

  pub lent_ended : {A : Type 0} (r : Result A Ending) → IfErr r (λ e. e ≡ ending.Strange) → IfErr r (λ e. HadLink AtLease mid q × HasLost mid q) → IfErr r (λ e. k ≡ without_lease call.Lost m) → IfErr r (λ e. IsEndedFor home g AtWait p q e)
  lent_ended (Ok l) is lost f = tt
  lent_ended (Err e) is lost f = subst (IsEndedFor home g AtWait p q) (sym is) (strange_ended lost f)

  pub lent_failed : {A : Type 0} (r : Result A Ending) → IfErr r (λ e. e ≡ ending.Strange) → IfErr r (λ e. lacks_place e ≡ true → IsNotStarted home g AtWait p q e)
  lent_failed (Ok l) is = tt
  lent_failed (Err e) is = λ x. absurd (true≢false (sym x ∙ ap lacks_place is))

  -- ---- a new link wasn't started

  unopened_ended : (e : Ending) (x : Gone) → IsUnopened home g e → (LetsIn home g.login → MayEnd [] (owed home.catalogue g [] []) (final_message_of e)) → q ≡ after_loss mid x → k ≡ without_lease call.StartFailed m → IsEndedFor home g AtWait p q e
  unopened_ended e x why word lost f c = granted_ended home g p mid q m k c c e granted (unopened_frees home g m k e why f) (record {
    tells = refl;
    traces = unopened_traces home g mid q e why (lost_by mid q x lost);
    came = unopened_came home g c e why;
    serves = λ t l. nothing_more _ _ _ _ _ (unopened_fault home g _ [] e why) (word l);
  })

  not_started : (e : Ending) (x : Gone) → IsUnopened home g e → q ≡ after_loss mid x → lacks_place e ≡ true → IsNotStarted home g AtWait p q e
  not_started (ending.Unstarted cause) x why lost lacks = record { cause = cause; gone = x; is_ending = refl; unstarted = why; counted = lost ∙ ap (λ (m : PassOf). after_loss m x) granted }
  not_started ending.Unreached x why lost lacks = absurd (true≢false (sym lacks))
  not_started ending.Memory x why lost lacks = absurd (true≢false (sym lacks))
  not_started ending.Left x why lost lacks = absurd why
  not_started (ending.Refused r) x why lost lacks = absurd why
  not_started ending.Strange x why lost lacks = absurd why
  not_started ending.Last x why lost lacks = absurd why
  not_started (ending.Relayed r) x why lost lacks = absurd why
  not_started (ending.Managed r) x why lost lacks = absurd why

  pub new_leased : {A : Type 0} (r : Result A Ending) → IfErr r (IsUnopened home g) → IfErr r (λ e. k ≡ without_lease call.StartFailed m) → IfErr r (λ e. HasLeased h k e)
  new_leased (Ok l) why f = tt
  new_leased (Err e) why f = leased_by h m k client refused found struck e (unopened_frees home g m k e why f)

  pub new_share : {A : Type 0} (r : Result A Ending) → IfErr r (λ e. (x : Gone) × (q ≡ after_loss mid x)) → IfErr r (λ e. Evens p q)
  new_share (Ok l) x = tt
  new_share (Err e) x = granted_evens p mid q granted (loss_ends mid q x.0 x.1)

  pub new_ended : {A : Type 0} (r : Result A Ending) → IfErr r (IsUnopened home g) → (LetsIn home g.login → IfErr r (λ e. MayEnd [] (owed home.catalogue g [] []) (final_message_of e))) → IfErr r (λ e. (x : Gone) × (q ≡ after_loss mid x)) → IfErr r (λ e. k ≡ without_lease call.StartFailed m) →
      IfErr r (λ e. IsEndedFor home g AtWait p q e)
  new_ended (Ok l) why word lost f = tt
  new_ended (Err e) why word lost f = unopened_ended e lost.0 why word lost.1 f

  pub new_failed : {A : Type 0} (r : Result A Ending) → IfErr r (IsUnopened home g) → IfErr r (λ e. (x : Gone) × (q ≡ after_loss mid x)) → IfErr r (λ e. lacks_place e ≡ true → IsNotStarted home g AtWait p q e)
  new_failed (Ok l) why lost = tt
  new_failed (Err e) why lost = not_started e lost.0 why lost.1

-- ---- behind an asking that was queued

module _ (home : HomeOf) (g : LoggedIn) (p mid q : PassOf) (h m k : Holder) (queued : mid ≡ one_other p) (client : m.client ≡ h.client) (found : m.found ≡ h.found) (struck : m.struck ≡ h.struck) where
  pub queued_leased : {A : Type 0} (r : Result A Ending) → IfErr r (λ e. HasLeased m k e) → IfErr r (λ e. HasLeased h k e)
  queued_leased (Ok l) x = tt
  queued_leased (Err e) x = record { client = x.client ∙ client; lease = x.lease; refused = x.refused; found = x.found ∙ found; struck = x.struck ∙ struck }

  other_evens : Evens mid q → Evens p q
  other_evens x =
      let y : Evens (one_other p) q = subst (λ (m : PassOf). Evens m q) queued x in
      record { stay = record { arrived = y.stay.arrived; left = y.stay.left }; leases = y.leases }

  pub queued_share : {A : Type 0} (r : Result A Ending) → IfErr r (λ e. Evens mid q) → IfErr r (λ e. Evens p q)
  queued_share (Ok l) x = tt
  queued_share (Err e) x = other_evens x

  pub queued_ends : {A : Type 0} (r : Result A Ending) → IfErr r (λ e. IsEndedFor home g AtWait mid q e) → IfErr r (λ e. IsEndedFor home g AtAsking p q e)
  queued_ends (Ok l) x = tt
  queued_ends (Err e) x = λ c. queued_ended home g p mid q c c e queued (x c)

  pub queued_failed : {A : Type 0} (r : Result A Ending) → IfErr r (λ e. lacks_place e ≡ true → IsNotStarted home g AtWait mid q e) → IfErr r (λ e. lacks_place e ≡ true → IsNotStarted home g AtAsking p q e)
  queued_failed (Ok l) x = tt
  queued_failed (Err e) x = λ lacks.
      let y = x lacks in
      record { cause = y.cause; gone = y.gone; is_ending = y.is_ending; unstarted = y.unstarted; counted = y.counted ∙ ap (λ (m : PassOf). after_loss (one_granted m) y.gone) queued }

  pub queued_told : {A : Type 0} (r : Result A Ending) → IfOk r (λ l. q ≡ one_granted mid) → IfOk r (λ l. q ≡ one_granted (one_other p))
  queued_told (Ok l) x = x ∙ ap one_granted queued
  queued_told (Err e) x = tt

  pub queued_held : {A : Type 0} (r : Result A Ending) → IfOk r (λ l. IsHeldBy m k) → IfOk r (λ l. IsHeldBy h k)
  queued_held (Ok l) x = record { client = x.client ∙ client; refused = x.refused; found = x.found ∙ found; struck = x.struck ∙ struck }
  queued_held (Err e) x = tt
