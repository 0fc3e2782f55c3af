-- A client that asks again for its link.
use Rattle.std.proofs.Common.{◌≡◌, inl, inr, true, refl, sym, ap, ◌∙◌, arith, subst}
use Rattle.std.proofs.lemmas.Bool.{true≢false}
use Rattle.link_model.specs.Standing.{ClientFacts}
use Rattle.link_desk.specs.declared.answers.Gone.{Gone}
use Rattle.link_desk.specs.declared.answers.Gone.TheVariants as gone
use Rattle.link_desk.specs.declared.calls.Holder.{Holder}
use Rattle.link_desk.specs.Homes.{HomeOf}
use Rattle.link_desk.specs.Passes.{PassOf, after_leaving, one_arrived, one_granted, one_other}
use Rattle.login_core.specs.Logins.{LoginView}
use Rattle.login_run.specs.Runs.{IsSameLogin, RunView}
use Rattle.pool_serve.specs.Again.{HasAskedAgain, HasEndedAtLast, IsNotStarted, after_failure, lacks_place}
use Rattle.pool_serve.specs.Again.HasAskedAgain.{never, once_more}
use Rattle.pool_serve.specs.Causes.{AtArrival, AtAsking, AtLease}
use Rattle.pool_serve.specs.Endings.{Frees, HasEnded, Traces}
use Rattle.pool_serve.specs.Shares.{Ends, Evens}
use Rattle.pool_serve.specs.Stays.{IsGuestOf, MayHaveAskedAgain, TracesAtLast}
use Rattle.pool_serve.specs.declared.ending.Ending.{Ending}
use Rattle.pool_serve.specs.declared.logged_in.LoggedIn.{LoggedIn}
use Rattle.pool_serve.proofs.Causing.{stay_traces}
use Rattle.pool_serve.proofs.Leases.{granted_ended, queued_ended, same_logged_in}

-- ---- what the pass tells

pub evens_none : (p : PassOf) → Evens p p
evens_none p = record { stay = record { arrived = refl; left = refl }; leases = λ e. (e, refl) }

pub evens_both : (p m q : PassOf) → Evens p m → Evens m q → Evens p q
evens_both p m q x y = record {
  stay = record { arrived = y.stay.arrived ∙ x.stay.arrived; left = y.stay.left ∙ x.stay.left };
  leases = λ e.
      let b = y.leases e in
      let a = x.leases b.0 in
      (a.0, omega (arith, a.1, b.1));
}

failure_evens : (p : PassOf) (g : Gone) → Evens p (after_failure AtAsking p g)
failure_evens p gone.Done = record { stay = record { arrived = refl; left = refl }; leases = λ e. (e, omega arith) }
failure_evens p gone.Last = record { stay = record { arrived = refl; left = refl }; leases = λ e. absurd (true≢false e) }
failure_evens p gone.Stranger = record { stay = record { arrived = refl; left = refl }; leases = λ e. absurd (true≢false e) }

pub again_evens : {home : HomeOf} {g : LoggedIn} {p m : PassOf} → HasAskedAgain home g p m → Evens p m
again_evens never = evens_none _
again_evens (once_more m cause gone h unstarted lacks) = evens_both _ m _ (again_evens h) (failure_evens m gone)

-- a link was granted behind it, which has gone
pub linked_evens : (p q r : PassOf) → q ≡ one_granted (one_other p) → Ends q r → Evens p r
linked_evens p q r is x =
    let y : Ends (one_granted (one_other p)) r = subst (λ (m : PassOf). Ends m r) is x in
    record {
      stay = record { arrived = y.stay.arrived; left = y.stay.left };
      leases = λ e.
          let b = y.ended e in
          (b.0, omega (arith, y.granted, b.1));
    }

-- ---- once more

pub one_more : {home : HomeOf} {g : LoggedIn} {p : PassOf} (m q : PassOf) (e : Ending) → HasAskedAgain home g p m → lacks_place e ≡ true → IsNotStarted home g AtAsking m q e → HasAskedAgain home g p q
one_more {home} {g} {p} m q e h lacks x =
    subst (HasAskedAgain home g p) (sym x.counted) (once_more m x.cause x.gone h x.unstarted (ap lacks_place (sym x.is_ending) ∙ lacks))

-- ---- at last

pub linked_at_last : {home : HomeOf} {g : LoggedIn} {p : PassOf} (m q r : PassOf) (h k : Holder) (before after : ClientFacts) (e : Ending) → HasAskedAgain home g p m → q ≡ one_granted (one_other m) → Frees h k e →
    HasEnded home g AtLease q r before after e → HasEndedAtLast home g p r before after e
linked_at_last {home} {g} {p} m q r h k before after e again is f x = record {
  last = m;
  again = again;
  ended = queued_ended home g m (one_other m) r before after e refl (granted_ended home g (one_other m) q r h k before after e is f x);
}

-- ---- behind an arrival

record Behind (home : HomeOf) (g : LoggedIn) (p m : PassOf) : Type 0 where
  first : PassOf
  again : HasAskedAgain home g p first
  is_behind : m ≡ one_arrived first

failed_behind : (p : PassOf) (g : Gone) → after_failure AtAsking (one_arrived p) g ≡ one_arrived (after_failure AtAsking p g)
failed_behind p gone.Done = refl
failed_behind p gone.Last = refl
failed_behind p gone.Stranger = refl

behind_arrival : {home : HomeOf} {g : LoggedIn} {p q m : PassOf} → q ≡ one_arrived p → HasAskedAgain home g q m → Behind home g p m
behind_arrival is never = record { first = _; again = never; is_behind = is }
behind_arrival is (once_more m cause gone h unstarted lacks) =
    let b = behind_arrival is h in
    record {
      first = after_failure AtAsking b.first gone;
      again = once_more b.first cause gone b.again unstarted lacks;
      is_behind = ap (λ (x : PassOf). after_failure AtAsking x gone) b.is_behind ∙ failed_behind b.first gone;
    }

-- between a client's arrival and its leaving
pub stay_at_last : (home : HomeOf) (v : LoginView) (p mid q after : PassOf) (g : Gone) (e : Ending) → mid ≡ one_arrived p → after ≡ after_leaving q g → TracesAtLast home v AtAsking mid q e → TracesAtLast home v AtArrival p after e
stay_at_last home v p mid q after g e is l x = by x.last x.again x.traces
  where
    by : (last : PassOf) → MayHaveAskedAgain home v mid last → Traces AtAsking last q e → TracesAtLast home v AtArrival p after e
    by last (inl same) t = record { last = p; again = inl refl; traces = stay_traces p last q after g e (same ∙ is) l t }
    by last (inr a) t =
        let b = behind_arrival is a.1.1 in
        record { last = b.first; again = inr (a.0, (a.1.0, b.again)); traces = stay_traces b.first last q after g e b.is_behind l t }

-- ---- the same login

same_again : (home : HomeOf) (old new : RunView) (p last : PassOf) → IsSameLogin old new → MayHaveAskedAgain home new.login p last → MayHaveAskedAgain home old.login p last
same_again home old new p last s (inl is) = inl is
same_again home old new p last s (inr a) = inr (a.0, (same_logged_in old new a.0 s a.1.0, a.1.1))

pub same_traces : (home : HomeOf) (old new : RunView) (p q : PassOf) (e : Ending) → IsSameLogin old new → TracesAtLast home new.login AtArrival p q e → TracesAtLast home old.login AtArrival p q e
same_traces home old new p q e s x = record { last = x.last; again = same_again home old new p x.last s x.again; traces = x.traces }

pub same_asking : (home : HomeOf) (old new : RunView) (p q : PassOf) (e : Ending) → IsSameLogin old new → TracesAtLast home new.login AtAsking p q e → TracesAtLast home old.login AtAsking p q e
same_asking home old new p q e s x = record { last = x.last; again = same_again home old new p x.last s x.again; traces = x.traces }

-- the same of the login that it began with
pub traces_first : (home : HomeOf) (v : LoginView) (old new : RunView) (p q : PassOf) (e : Ending) → old.login ≡ v → IsSameLogin old new → TracesAtLast home new.login AtArrival p q e → TracesAtLast home v AtArrival p q e
traces_first home v old new p q e is s x = subst (λ (w : LoginView). TracesAtLast home w AtArrival p q e) is (same_traces home old new p q e s x)

-- of a client that never asked again
pub asked_once : (home : HomeOf) (v : LoginView) (p q : PassOf) (e : Ending) → Traces AtArrival p q e → TracesAtLast home v AtArrival p q e
asked_once home v p q e t = record { last = p; again = inl refl; traces = t }

pub guest_traces : (home : HomeOf) (v : LoginView) (g : LoggedIn) (p q : PassOf) (before after : ClientFacts) (e : Ending) → IsGuestOf v g → HasEndedAtLast home g p q before after e → TracesAtLast home v AtAsking p q e
guest_traces home v g p q before after e i x = record { last = x.last; again = inr (g, (i, x.again)); traces = x.ended.traces }
