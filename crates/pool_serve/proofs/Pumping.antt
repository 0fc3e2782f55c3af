-- A relay that is pumped until its lease ends.
use Rattle.std.proofs.Common.{◌≡◌, ◌⊎◌, inl, inr, Bool, refl, sym, ap, ◌∙◌, subst}
use Rattle.std.specs.Prelude.{IfSome}
use Rattle.message_view.specs.declared.refusal.Refusal.{Refusal}
use Rattle.relay_model.specs.Answers.{AtBorder, RefusedBy, judged, phase_after}
use Rattle.relay_model.specs.Leases.{IsLease, Keeps, Place, RelayView}
use Rattle.relay_model.specs.declared.Next.{Next}
use Rattle.relay_model.specs.declared.Next.TheVariants.{Again, Wait, ClientDone, Refuse, Closed}
use Rattle.relay_model.specs.declared.Phase.TheVariants.{Running}
use Rattle.pool_serve.specs.Endings.{refusal_at, refusal_told}
use Rattle.pool_serve.proofs.Causing.{told_by_pump}

-- by its last answer
pub record Pumped (first v : RelayView) (n : Next) : Type 0 where
  pub keeps : Keeps first v
  pub phase : v.phase ≡ phase_after n
  pub told : refusal_told n ≡ refusal_at v
  pub refused : IfSome (refusal_told n) (λ r. (p : Place) → IsLease p first → AtBorder p v × RefusedBy p v r)

refused_by : (first old new : RelayView) (n : Next) → Keeps first old → ((p : Place) (r : Refusal) → IsLease p old → n ≡ Refuse r → AtBorder p new × RefusedBy p new r) → IfSome (refusal_told n) (λ r. (p : Place) → IsLease p first → AtBorder p new × RefusedBy p new r)
refused_by first old new (Refuse r) k h = λ p x. h p r (k p x) refl
refused_by first old new Again k h = tt
refused_by first old new Wait k h = tt
refused_by first old new ClientDone k h = tt
refused_by first old new Closed k h = tt

-- one pump more
pub pumped_on : (first old new : RelayView) (n : Next) → Keeps first old → old.phase ≡ Running → Keeps old new → (old.phase ≡ Running → (none : Bool) × (n ≡ judged none new)) → ((p : Place) (r : Refusal) → IsLease p old → n ≡ Refuse r → AtBorder p new × RefusedBy p new r)
    → (old.phase ≡ Running → new.phase ≡ phase_after n) → Pumped first new n
pumped_on first old new n k runs keeps judges refuses phase = record {
  keeps = λ p x. keeps p (k p x);
  phase = phase runs;
  told = told_by_pump n new (judges runs);
  refused = refused_by first old new n k refuses;
}

-- the first answer still, or that of a pump since then
abbrev pub Goes : (first v : RelayView) (begun n : Next) → Type 0
Goes first v begun n = ((v ≡ first) × (n ≡ begun)) ⊎ Pumped first v n

keeps_so : (first v : RelayView) (begun n : Next) → Goes first v begun n → Keeps first v
keeps_so first v begun n (inl e) = subst (Keeps first) (sym e.0) (λ p x. x)
keeps_so first v begun n (inr x) = x.keeps

phase_so : (first v : RelayView) (begun n : Next) → first.phase ≡ phase_after begun → Goes first v begun n → v.phase ≡ phase_after n
phase_so first v begun n f (inl e) = ap (λ (w : RelayView). w.phase) e.0 ∙ (f ∙ ap phase_after (sym e.1))
phase_so first v begun n f (inr x) = x.phase

pub goes_on : (first v new : RelayView) (begun n m : Next) → first.phase ≡ phase_after begun → Goes first v begun n → phase_after n ≡ Running → Keeps v new → (v.phase ≡ Running → (none : Bool) × (m ≡ judged none new))
    → ((p : Place) (r : Refusal) → IsLease p v → m ≡ Refuse r → AtBorder p new × RefusedBy p new r) → (v.phase ≡ Running → new.phase ≡ phase_after m) → Goes first new begun m
goes_on first v new begun n m f x runs keeps judges refuses phase = inr (pumped_on first v new m (keeps_so first v begun n x) (phase_so first v begun n f x ∙ runs) keeps judges refuses phase)

since : (start first v : RelayView) (n : Next) → Keeps start first → IfSome (refusal_told n) (λ r. (p : Place) → IsLease p first → AtBorder p v × RefusedBy p v r) → IfSome (refusal_told n) (λ r. (p : Place) → IsLease p start → AtBorder p v × RefusedBy p v r)
since start first v (Refuse r) k h = λ p x. h p (k p x)
since start first v Again k h = tt
since start first v Wait k h = tt
since start first v ClientDone k h = tt
since start first v Closed k h = tt

-- from the first pump on
pub gone : (start first v : RelayView) (begun n : Next) → Pumped start first begun → Goes first v begun n → Pumped start v n
gone start first v begun n b (inl e) = subst (λ (w : RelayView). Pumped start w n) (sym e.0) (subst (Pumped start first) (sym e.1) b)
gone start first v begun n b (inr x) = record { keeps = λ p y. x.keeps p (b.keeps p y); phase = x.phase; told = x.told; refused = since start first v n b.keeps x.refused }
