-- A lease that is keyed, and ends, and its link that goes.
use Rattle.std.proofs.Common.{◌≡◌, inl, inr, ℕ, Bool, true, false, refl, sym, ap, ◌∙◌, subst, arith, Option, None, Some}
use Rattle.std.specs.Prelude.{option_map}
use Rattle.std.proofs.lemmas.Bool.{true≢false}
use Rattle.message_view.specs.declared.KeyWord.{KeyWord}
use Rattle.message_view.specs.declared.views.KeyView.{KeyView}
use Rattle.link_run.specs.Links.{LinkView}
use Rattle.link_desk.specs.declared.answers.Keying.{Keying}
use Rattle.link_desk.specs.declared.answers.Keying.TheVariants as keying
use Rattle.link_desk.specs.declared.answers.Release.{Release}
use Rattle.link_desk.specs.declared.answers.Release.TheVariants.{Reset, Dispose, Last, Stranger}
use Rattle.link_desk.specs.declared.calls.Call.{Call}
use Rattle.link_desk.specs.declared.calls.Call.TheVariants as call
use Rattle.link_desk.specs.declared.calls.Holder.{Holder}
use Rattle.link_desk.specs.declared.calls.Lease.{Lease}
use Rattle.link_desk.specs.declared.calls.Stage.{Stage}
use Rattle.link_desk.specs.declared.calls.Stage.TheVariants.{Granted, Keyed, Ended}
use Rattle.link_desk.specs.Passes.{PassOf, after_keying, after_release, broken, is_before_end, is_open, keyed_lease, of_lease, one_other, released, without_lease}
use Rattle.relay_core.specs.declared.relay.Returned.{Returned}
use Rattle.relay_core.specs.declared.relay.Returned.TheVariants.{Unused, Used, Gone}
use Rattle.pool_serve.specs.Backs.{GoesBack, HasLease, IsBackByRelease, IsBackOrLost, IsFreed, WaitsBehindEnd}
use Rattle.pool_serve.specs.Cancels.{IsKeyed}
use Rattle.pool_serve.specs.Shares.{Ends}

-- ---- who holds the pass

-- the same client, the same link, and the same cancels
pub record Holds (h k : Holder) : Type 0 where
  pub client : k.client ≡ h.client
  pub refused : k.refused ≡ h.refused
  pub found : k.found ≡ h.found
  pub struck : k.struck ≡ h.struck
  pub number : (c : ℕ → Call) → of_lease c k ≡ of_lease c h

same_number : (c : ℕ → Call) (stage : Stage) (o : Option Lease) → option_map (λ (l : Lease). c l.number) (option_map (λ (l : Lease). record l { stage = stage }) o) ≡ option_map (λ (l : Lease). c l.number) o
same_number c stage None = refl
same_number c stage (Some l) = refl

keyed_holds : (client server : KeyView) (h : Holder) (r : Keying) → Holds h (keyed_lease client server h r)
keyed_holds client server h keying.Done = record { client = refl; refused = refl; found = refl; struck = refl; number = λ c. same_number c Keyed h.lease }
keyed_holds client server h keying.Last = record { client = refl; refused = refl; found = refl; struck = refl; number = λ c. refl }
keyed_holds client server h keying.Stranger = record { client = refl; refused = refl; found = refl; struck = refl; number = λ c. refl }

released_holds : (h : Holder) (r : Release) → Holds h (released h r)
released_holds h Reset = record { client = refl; refused = refl; found = refl; struck = refl; number = λ c. same_number c Ended h.lease }
released_holds h Dispose = record { client = refl; refused = refl; found = refl; struck = refl; number = λ c. refl }
released_holds h Last = record { client = refl; refused = refl; found = refl; struck = refl; number = λ c. refl }
released_holds h Stranger = record { client = refl; refused = refl; found = refl; struck = refl; number = λ c. refl }

freed_of : (c : ℕ → Call) (h m k : Holder) → Holds h m → k ≡ without_lease c m → IsFreed c h k
freed_of c h m k s e = record {
  client = ap (λ (x : Holder). x.client) e ∙ s.client;
  lease = ap (λ (x : Holder). x.lease) e;
  refused = ap (λ (x : Holder). x.refused) e ∙ s.refused;
  found = ap (λ (x : Holder). x.found) e ∙ s.found;
  struck = ap (λ (x : Holder). x.struck) e ∙ s.struck;
  last = ap (λ (x : Holder). x.last) e ∙ s.number c;
}

pub freed : (c : ℕ → Call) (h k : Holder) → k ≡ without_lease c h → IsFreed c h k
freed c h k e = freed_of c h h k (record { client = refl; refused = refl; found = refl; struck = refl; number = λ d. refl }) e

freed_behind : (c : ℕ → Call) (h m k : Holder) → Holds h m → IsFreed c m k → IsFreed c h k
freed_behind c h m k s x = record {
  client = x.client ∙ s.client;
  lease = x.lease;
  refused = x.refused ∙ s.refused;
  found = x.found ∙ s.found;
  struck = x.struck ∙ s.struck;
  last = x.last ∙ s.number c;
}

-- ---- behind a lease that was keyed

pub keyed_freed : (c : ℕ → Call) (client server : KeyView) (r : Keying) (h m k : Holder) → m ≡ keyed_lease client server h r → k ≡ without_lease c m → IsFreed c h k
keyed_freed c client server r h m k is e = freed_of c h m k (subst (Holds h) (sym is) (keyed_holds client server h r)) e

pub keyed_back : (client server : KeyView) (h m k : Holder) → m ≡ keyed_lease client server h keying.Done → IsBackOrLost m k → IsBackOrLost h k
keyed_back client server h m k is (inl x) = inl (freed_behind call.GiveBack h m k (subst (Holds h) (sym is) (keyed_holds client server h keying.Done)) x)
keyed_back client server h m k is (inr x) = inr (freed_behind call.Lost h m k (subst (Holds h) (sym is) (keyed_holds client server h keying.Done)) x)

pub keyed_has : (h : Holder) (link : LinkView) (word : KeyWord) (o : Option KeyView) → IsKeyed h link word o → HasLease h link.number link.started_at
keyed_has h link word None x = record { stage = Granted; lease = x; is_open = refl }
keyed_has h link word (Some s) x = record { stage = Keyed; lease = x.lease; is_open = refl }

-- ---- behind the end of a lease

pub lease_is_open : (h : Holder) (number started_at : ℕ) → HasLease h number started_at → is_open h ≡ true
lease_is_open h number started_at x = ap (λ (o : Option Lease). is_before_end (option_map (λ (l : Lease). l.stage) o)) x.lease ∙ x.is_open

pub lease_ended : (h m : Holder) (number started_at : ℕ) → HasLease h number started_at → m ≡ released h Reset → m.lease ≡ Some (record { number = number; started_at = started_at; stage = Ended })
lease_ended h m number started_at x e = ap (λ (y : Holder). y.lease) e ∙ ap (option_map (λ (l : Lease). record l { stage = Ended })) x.lease

released_freed : (r : Release) (c : ℕ → Call) (h m k : Holder) → m ≡ released h r → k ≡ without_lease c m → IsFreed c h k
released_freed r c h m k is e = freed_of c h m k (subst (Holds h) (sym is) (released_holds h r)) e

release_told : (r : Release) (c : ℕ → Call) (h m k : Holder) → m ≡ released h r → k ≡ without_lease c m → k.release ≡ Some r
release_told r c h m k is e = ap (λ (x : Holder). x.release) e ∙ ap (λ (x : Holder). x.release) is

pub released_back : (h m k : Holder) → m ≡ released h Reset → k ≡ without_lease call.GiveBack m → IsBackByRelease k.release h k
released_back h m k is e = subst (λ (o : Option Release). IsBackByRelease o h k) (sym (release_told Reset call.GiveBack h m k is e)) (released_freed Reset call.GiveBack h m k is e)

pub unreset : (h m k : Holder) → m ≡ released h Reset → k ≡ without_lease call.Lost m → IsFreed call.Lost h k
unreset h m k is e = released_freed Reset call.Lost h m k is e

-- the desk said that a cancel is for it, or that it doesn't know
abbrev pub IsKept : Release → Type 0
IsKept Reset = ⊥
IsKept _ = Unit {0}

pub disposed : (r : Release) (h m k : Holder) → IsKept r → m ≡ released h r → k ≡ without_lease call.Lost m → IsBackByRelease k.release h k
disposed Reset h m k x is e = absurd x
disposed Dispose h m k x is e = subst (λ (o : Option Release). IsBackByRelease o h k) (sym (release_told Dispose call.Lost h m k is e)) (released_freed Dispose call.Lost h m k is e)
disposed Last h m k x is e = subst (λ (o : Option Release). IsBackByRelease o h k) (sym (release_told Last call.Lost h m k is e)) (released_freed Last call.Lost h m k is e)
disposed Stranger h m k x is e = subst (λ (o : Option Release). IsBackByRelease o h k) (sym (release_told Stranger call.Lost h m k is e)) (released_freed Stranger call.Lost h m k is e)

by_release : (o : Option Release) (h k : Holder) → IsBackByRelease o h k → IsBackOrLost h k
by_release None h k x = absurd x
by_release (Some Reset) h k x = inl x
by_release (Some Dispose) h k x = inr x
by_release (Some Last) h k x = inr x
by_release (Some Stranger) h k x = inr x

pub back_or_lost : {E : Type 0} (r : Returned E) (h k : Holder) → GoesBack r h k → IsBackOrLost h k
back_or_lost (Unused l) h k x = by_release k.release h k x
back_or_lost (Used l) h k (inl x) = by_release k.release h k x
back_or_lost (Used l) h k (inr x) = inr x
back_or_lost (Gone lent cause) h k x = inr x

pub unused_back : (h k : Holder) → IsBackByRelease k.release h k → IsBackOrLost h k
unused_back h k x = by_release k.release h k x

-- ---- how long it takes

-- it is reset, or wasn't, behind its lease's end
pub reset_behind_end : (c : ℕ → Call) (h m k : Holder) (before after : ℕ) → m ≡ released h Reset → k ≡ without_lease c m → WaitsBehindEnd k.release before after
reset_behind_end c h m k before after is e = subst (λ (o : Option Release). WaitsBehindEnd o before after) (sym (release_told Reset c h m k is e)) tt

pub waits_for_nothing : (o : Option Release) (before after : ℕ) → after ≡ before → WaitsBehindEnd o before after
waits_for_nothing None before after e = e
waits_for_nothing (Some Reset) before after e = tt
waits_for_nothing (Some Dispose) before after e = e
waits_for_nothing (Some Last) before after e = e
waits_for_nothing (Some Stranger) before after e = e

-- ---- what the pass tells

behind_other : (p mid q : PassOf) → mid ≡ one_other p → Ends mid q → Ends p q
behind_other p mid q is x =
    let y : Ends (one_other p) q = subst (λ (m : PassOf). Ends m q) is x in
    record { stay = record { arrived = y.stay.arrived; left = y.stay.left }; granted = y.granted; others = omega (arith, y.others); ended = y.ended }

behind_broken : (p mid q : PassOf) → mid ≡ broken p → Ends mid q → Ends p q
behind_broken p mid q is x =
    let y : Ends (broken p) q = subst (λ (m : PassOf). Ends m q) is x in
    record { stay = record { arrived = y.stay.arrived; left = y.stay.left }; granted = y.granted; others = y.others; ended = λ e. absurd (true≢false (y.ended e).0) }

pub keyed_ends : (p mid q : PassOf) (k : Keying) → mid ≡ after_keying p k → Ends mid q → Ends p q
keyed_ends p mid q keying.Done is x = behind_other p mid q is x
keyed_ends p mid q keying.Last is x = behind_broken p mid q is x
keyed_ends p mid q keying.Stranger is x = behind_broken p mid q is x

pub released_ends : (p mid q : PassOf) (r : Release) → mid ≡ after_release p r → Ends mid q → Ends p q
released_ends p mid q Reset is x = behind_other p mid q is x
released_ends p mid q Dispose is x = behind_other p mid q is x
released_ends p mid q Last is x = behind_broken p mid q is x
released_ends p mid q Stranger is x = behind_broken p mid q is x

by_cases : (b : Bool) → (b ≡ false → b ≡ true) → b ≡ true
by_cases true f = refl
by_cases false f = f refl

-- what is broken stays so
pub still_broken : (p mid q : PassOf) → mid ≡ broken p → Ends mid q → q.is_broken ≡ true
still_broken p mid q is x = by_cases q.is_broken (λ e. absurd (true≢false (sym (ap (λ (m : PassOf). m.is_broken) is) ∙ (x.ended e).0)))
