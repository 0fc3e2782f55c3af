-- What a pass tells after an event that was made through it.
use Rattle.std.specs.Prelude.{◌≡◌, ◌⊎◌, Bool, true, false}
use Rattle.message_view.specs.declared.refusal.Refusal.TheVariants.{LastDecision}
use Rattle.book_model.specs.Outcomes.{Event}
use Rattle.book_model.specs.Outcomes.Event.{Arrive, Ask, Take, GiveBack, Lost, StartFailed, Leave, Tick, Makes, Keyed, Cancel, EndLease, HungUp}
use Rattle.book_model.specs.declared.events.Reply.{Reply}
use Rattle.book_model.specs.declared.events.Reply.TheVariants.{Arrived, Queued, Lend, Start, Close, Refuse, Done, Stranger, Strike, Nobody, Reset, Dispose}
use Rattle.desk_tallies.specs.Passes.{PassOf, after_refusal, broken, one_arrived, one_given_back, one_granted, one_left, one_lost, one_other}
use Rattle.desk_tallies.specs.Refusing.{RefusesArrival, RefusesAsking, RefusesGrant}

-- nothing more is promised of a pass after these replies
abbrev pub breaks : Reply → Bool
breaks (Refuse LastDecision) = true
breaks (Refuse refusal) = false
breaks Stranger = true
breaks _ = false

-- by the event and its reply; a refusal is one of the call's, a tick that is done may be a decision or none, and to no event are other
-- replies given
abbrev pub Tells : Event → Reply → PassOf → PassOf → Type 0
Tells (Arrive beyond) (Arrived n) p q = q ≡ one_arrived p
Tells (Arrive beyond) (Refuse refusal) p q = (q ≡ after_refusal p refusal) × RefusesArrival refusal
Tells (Ask client key) (Queued n) p q = q ≡ one_other p
Tells (Ask client key) (Refuse refusal) p q = (q ≡ after_refusal p refusal) × RefusesAsking refusal
Tells (Ask client key) Stranger p q = q ≡ broken p
Tells (Take client) (Queued n) p q = q ≡ p
Tells (Take client) (Lend link) p q = q ≡ one_granted p
Tells (Take client) (Start link started_at evicted) p q = q ≡ one_granted p
Tells (Take client) (Refuse refusal) p q = (q ≡ after_refusal p refusal) × RefusesGrant refusal
Tells (Take client) Stranger p q = q ≡ broken p
Tells (GiveBack link) Done p q = q ≡ one_given_back p
Tells (GiveBack link) (Close n) p q = q ≡ one_given_back p
Tells (GiveBack link) (Refuse LastDecision) p q = q ≡ broken p
Tells (GiveBack link) Stranger p q = q ≡ broken p
Tells (Lost link) Done p q = q ≡ one_lost p
Tells (Lost link) (Refuse LastDecision) p q = q ≡ broken p
Tells (Lost link) Stranger p q = q ≡ broken p
Tells (StartFailed link) Done p q = q ≡ one_lost p
Tells (StartFailed link) (Refuse LastDecision) p q = q ≡ broken p
Tells (StartFailed link) Stranger p q = q ≡ broken p
Tells (Leave client) Done p q = q ≡ one_left p
Tells (Leave client) (Refuse LastDecision) p q = q ≡ broken p
Tells (Leave client) Stranger p q = q ≡ broken p
Tells (Tick now) Done p q = (q ≡ p) ⊎ (q ≡ one_other p)
Tells (Tick now) (Close link) p q = q ≡ one_other p
Tells (Tick now) (Refuse LastDecision) p q = q ≡ broken p
Tells (Makes change) Done p q = q ≡ one_other p
Tells (Makes change) (Refuse LastDecision) p q = q ≡ broken p
Tells (Keyed link client server) Done p q = q ≡ one_other p
Tells (Keyed link client server) (Refuse LastDecision) p q = q ≡ broken p
Tells (Keyed link client server) Stranger p q = q ≡ broken p
Tells (Cancel client) (Strike link server) p q = q ≡ one_other p
Tells (Cancel client) Nobody p q = q ≡ p
Tells (Cancel client) (Refuse LastDecision) p q = q ≡ broken p
Tells (EndLease link) Reset p q = q ≡ one_other p
Tells (EndLease link) Dispose p q = q ≡ one_other p
Tells (EndLease link) (Refuse LastDecision) p q = q ≡ broken p
Tells (EndLease link) Stranger p q = q ≡ broken p
Tells (HungUp link) (Close n) p q = q ≡ one_other p
Tells (HungUp link) Nobody p q = q ≡ p
Tells (HungUp link) (Refuse LastDecision) p q = q ≡ broken p
Tells _ _ p q = ⊥
