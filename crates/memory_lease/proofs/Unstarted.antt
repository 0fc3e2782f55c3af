-- A server that is handed back because no link was started over it.
use Rattle.std.proofs.Common.{◌≡◌, ◌⊎◌, inl, inr, ℕ, ◌+◌, ◌≤◌, true, false, List, refl, sym, ap, ◌∙◌, arith, subst, Option}
use Rattle.std.specs.Prelude.{◌≢◌}
use Rattle.std.proofs.lemmas.Bool.{true≢false}
use Rattle.message_view.specs.declared.refusal.Refusal.{Refusal}
use Rattle.message_view.specs.declared.refusal.Refusal.TheVariants.{OutOfMemory}
use Rattle.session_values.specs.State.{StartKeyOf}
use Rattle.credentials.specs.Credentials.{CredentialOf}
use Rattle.link_model.specs.Standing.{Standing}
use Rattle.link_model.specs.Dialogues.{auth_of}
use Rattle.link_start.specs.Refusing.{refusal_of}
use Rattle.link_start.specs.Starts.{HasTried, IsStartCause, IsLost, IsUnanswerable, waits_of}
use Rattle.link_start.specs.declared.start.StartCause.{StartCause}
use Rattle.link_start.specs.declared.start.StartCause.TheVariants as cause
use Rattle.link_start.specs.declared.start.StartRefusal.TheVariants as told
use Rattle.memory_ends.specs.Servers.{LAST_COUNT, ServerOf}
use Rattle.memory_lease.specs.declared.alone.ServeError.{ServeError}
use Rattle.memory_lease.specs.declared.alone.ServeError.TheVariants.{Memory, Unended, Unstarted}
use Rattle.memory_lease.specs.Held.{IsHandedBack}
use Rattle.memory_lease.specs.Own.{OwnOf, marked, own_server}
use Rattle.memory_lease.specs.Unended.{StillWaits, IsUnserved, IsUnstarted}
use Rattle.memory_lease.specs.declared.alone.TheConstants.{START_TURNS}

-- where it counts no fault and still waits, it was lost only by the last count of its waits
counted_out : (began now : Standing) → IsLost began now → now.faults ≡ 0 → StillWaits now → now.read_waits ≡ LAST_COUNT
counted_out began now lost f (inr w) = w
counted_out began now (inl dead) f (inl lives) = absurd (true≢false (sym lives ∙ dead))
counted_out began now (inr more) f (inl lives) = absurd (omega (arith, more, f))

because_of : (began now : Standing) (cred : CredentialOf) (key : StartKeyOf) (c : StartCause) (r : Refusal) → began.follows ≡ true → IsStartCause began now cred key c → (c ≡ cause.Turns → HasTried began cred key now START_TURNS) → (c ≡ cause.Late → false ≡ true) → refusal_of c ≡ told.Refusal r → r ≢ OutOfMemory → now.faults ≡ 0 → StillWaits now
    → IsUnanswerable cred key.user (auth_of began.stage) ⊎ ((START_TURNS + waits_of began ≤ waits_of now) ⊎ (now.read_waits ≡ LAST_COUNT))
because_of began now cred key (cause.Refused error) r f x h l e n z w = absurd cc
because_of began now cred key cause.Lost r f x h l e n z w = inr (inr (counted_out began now x.says z w))
because_of began now cred key (cause.Unanswerable question) r f x h l e n z w = inl (x.1 f)
because_of began now cred key cause.Unexpected r f x h l e n z w = absurd (x.1 f)
because_of began now cred key cause.Turns r f x h l e n z w = inr (inl (h refl).tries)
because_of began now cred key cause.Late r f x h l e n z w = absurd (true≢false (sym (l refl)))
because_of began now cred key cause.Memory r f x h l e n z w = absurd (n cc)

pub unserved : (dies : Option ℕ) (start : Standing) (first_own server : OwnOf) (cred : CredentialOf) (key : StartKeyOf) (bytes : List ℕ) (c : StartCause) (error : ServeError) → first_own ≡ own_server dies start → start.follows ≡ true → IsStartCause first_own.standing server.standing cred key c
    → (c ≡ cause.Turns → HasTried first_own.standing cred key server.standing START_TURNS) → (c ≡ cause.Late → false ≡ true) → IsHandedBack c server error → IsUnserved start cred key bytes error
unserved dies start first_own server cred key bytes c Memory o f x h l b = tt
unserved dies start first_own server cred key bytes c (Unended last) o f x h l b = absurd b
unserved dies start first_own server cred key bytes c (Unstarted last) o f x h l b =
    let waits = b.1.1.1 in
    let now : Standing = (own_server last.left last.standing).standing in
    let cause_now : IsStartCause (marked dies start) now cred key c = subst (λ (q : OwnOf). IsStartCause (marked dies start) q.standing cred key c) (sym waits.same) (subst (λ (y : OwnOf). IsStartCause y.standing server.standing cred key c) o x) in
    let tried : c ≡ cause.Turns → HasTried (marked dies start) cred key now START_TURNS = λ e. subst (λ (q : OwnOf). HasTried (marked dies start) cred key q.standing START_TURNS) (sym waits.same) (subst (λ (y : OwnOf). HasTried y.standing cred key server.standing START_TURNS) o (h e)) in
    let still : StillWaits now = subst (λ (q : OwnOf). StillWaits q.standing) (sym waits.same) waits.waits in
    record {
      waits = still;
      because = because_of (marked dies start) now cred key c b.0 f cause_now tried l b.1.0 b.1.1.0 (ap (λ (q : OwnOf). q.standing.faults) waits.same ∙ waits.faults) still;
    }
