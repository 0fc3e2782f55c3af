-- What is counted on a pass: the decisions that were made through it, by class; and who holds it.
use Rattle.std.specs.Prelude.{◌≡◌, ℕ, suc, Bool, true, false, Option, Some, None, option_map}
use Rattle.message_view.specs.declared.refusal.Refusal.{Refusal}
use Rattle.book_model.specs.declared.events.Beyond.{Beyond}
use Rattle.message_view.specs.declared.views.KeyView.{KeyView}
use Rattle.message_view.specs.declared.refusal.Refusal.TheVariants.{LastDecision}
use Rattle.link_start.specs.Links.{LinkView}
use Rattle.link_desk.specs.declared.calls.Call.{Call}
use Rattle.link_desk.specs.declared.calls.Call.TheVariants as call
use Rattle.link_desk.specs.declared.calls.Lease.{Lease}
use Rattle.link_desk.specs.declared.calls.Stage.{Stage}
use Rattle.link_desk.specs.declared.calls.Stage.TheVariants.{Granted, Keyed, Ended}
use Rattle.link_desk.specs.declared.calls.Holder.{Holder}
use Rattle.link_desk.specs.declared.answers.Arrival.{Arrival}
use Rattle.link_desk.specs.declared.answers.Arrival.TheVariants as arrival
use Rattle.link_desk.specs.declared.answers.Asked.{Asked}
use Rattle.link_desk.specs.declared.answers.Asked.TheVariants as asked
use Rattle.link_desk.specs.declared.answers.Grant.{Grant}
use Rattle.link_desk.specs.declared.answers.Grant.TheVariants as grant
use Rattle.link_desk.specs.declared.answers.Back.{Back}
use Rattle.link_desk.specs.declared.answers.Back.TheVariants as back
use Rattle.link_desk.specs.declared.answers.Keying.{Keying}
use Rattle.link_desk.specs.declared.answers.Keying.TheVariants as keying
use Rattle.link_desk.specs.declared.answers.Release.{Release}
use Rattle.link_desk.specs.declared.answers.Release.TheVariants as release
use Rattle.link_desk.specs.declared.answers.Cancelled.{Cancelled}
use Rattle.link_desk.specs.declared.answers.Cancelled.TheVariants as cancelled
use Rattle.link_desk.specs.declared.answers.Target.{Target}
use Rattle.link_desk.specs.Cancels.{target_of}
use Rattle.link_desk.specs.declared.answers.Gone.{Gone}
use Rattle.link_desk.specs.declared.answers.Gone.TheVariants as gone
use Rattle.link_desk.specs.declared.answers.Changed.{Changed}
use Rattle.link_desk.specs.declared.answers.Changed.TheVariants as changed

-- decisions by class: clients let in, links granted, links given back, links lost or not started, clients gone, and all others
pub record Made : Type 0 where
  pub arrived : ℕ
  pub granted : ℕ
  pub given_back : ℕ
  pub lost : ℕ
  pub left : ℕ
  pub others : ℕ

-- the decisions made through a pass; and whether a call through it was answered as strange, or by the last decision
pub record PassOf : Type 0 where
  pub made : Made
  pub is_broken : Bool

abbrev pub none_made : Made
none_made = record { arrived = 0; granted = 0; given_back = 0; lost = 0; left = 0; others = 0 }

abbrev pub new_pass : PassOf
new_pass = record { made = none_made; is_broken = false }

abbrev pub broken : PassOf → PassOf
broken p = record p { is_broken = true }

abbrev pub one_arrived : PassOf → PassOf
one_arrived p = record p { made = record p.made { arrived = suc p.made.arrived } }

abbrev pub one_granted : PassOf → PassOf
one_granted p = record p { made = record p.made { granted = suc p.made.granted } }

abbrev pub one_given_back : PassOf → PassOf
one_given_back p = record p { made = record p.made { given_back = suc p.made.given_back } }

abbrev pub one_lost : PassOf → PassOf
one_lost p = record p { made = record p.made { lost = suc p.made.lost } }

abbrev pub one_left : PassOf → PassOf
one_left p = record p { made = record p.made { left = suc p.made.left } }

abbrev pub one_other : PassOf → PassOf
one_other p = record p { made = record p.made { others = suc p.made.others } }

-- a refusal is a decision, but for that of the last decision
abbrev pub after_refusal : PassOf → Refusal → PassOf
after_refusal p LastDecision = broken p
after_refusal p refusal = one_other p

-- ---- what each call makes of its pass

abbrev pub after_arrival : PassOf → Arrival → PassOf
after_arrival p (arrival.Client n) = one_arrived p
after_arrival p (arrival.Refused refusal) = after_refusal p refusal

abbrev pub after_asking : PassOf → Asked → PassOf
after_asking p (asked.Queued n) = one_other p
after_asking p (asked.Refused refusal) = after_refusal p refusal
after_asking p asked.Memory = p
after_asking p asked.Stranger = broken p

module _ {E : Type 0} where
  abbrev pub after_grant : PassOf → Grant E → PassOf
  after_grant p grant.Queued = p
  after_grant p (grant.Lend l) = one_granted p
  after_grant p (grant.Start number started_at evicted) = one_granted p
  after_grant p (grant.Refused refusal) = after_refusal p refusal
  after_grant p grant.Stranger = broken p

abbrev pub after_keying : PassOf → Keying → PassOf
after_keying p keying.Done = one_other p
after_keying p keying.Last = broken p
after_keying p keying.Stranger = broken p

abbrev pub after_release : PassOf → Release → PassOf
after_release p release.Reset = one_other p
after_release p release.Dispose = one_other p
after_release p release.Last = broken p
after_release p release.Stranger = broken p

-- who finds nobody changes nothing
abbrev pub after_cancel : PassOf → Cancelled → PassOf
after_cancel p (cancelled.Strike strike) = one_other p
after_cancel p cancelled.Nobody = p
after_cancel p cancelled.Last = broken p

abbrev pub after_back : PassOf → Back → PassOf
after_back p back.Done = one_given_back p
after_back p back.Close = one_given_back p
after_back p back.Last = broken p
after_back p back.Stranger = broken p

abbrev pub after_loss : PassOf → Gone → PassOf
after_loss p gone.Done = one_lost p
after_loss p gone.Last = broken p
after_loss p gone.Stranger = broken p

abbrev pub after_leaving : PassOf → Gone → PassOf
after_leaving p gone.Done = one_left p
after_leaving p gone.Last = broken p
after_leaving p gone.Stranger = broken p

abbrev pub after_change : PassOf → Changed → PassOf
after_change p changed.Done = one_other p
after_change p changed.Last = broken p

-- the last call that was made through it, which changed something for all, was answered so
abbrev pub IsAfterChange : Changed → PassOf → Type 0
IsAfterChange changed p = (before : PassOf) × (p ≡ after_change before changed)

-- ---- what each call makes of its holder; what goes to the book is the holder's own

abbrev pub new_holder : Holder
new_holder = record { client = None; lease = None; release = None; refused = None; found = None; struck = None; last = None }

abbrev pub lease_at : Stage → LinkView → Lease
lease_at stage l = record { number = l.number; started_at = l.started_at; stage = stage }

-- a link's lease as it begins, and once it has ended without a cancel
abbrev pub granted_lease : LinkView → Lease
granted_lease = lease_at Granted

abbrev pub ended_lease : LinkView → Lease
ended_lease = lease_at Ended

abbrev pub stage_of : Holder → Option Stage
stage_of h = option_map (λ (l : Lease). l.stage) h.lease

-- a lease is there that hasn't ended
abbrev pub is_before_end : Option Stage → Bool
is_before_end (Some Granted) = true
is_before_end (Some Keyed) = true
is_before_end _ = false

abbrev pub is_open : Holder → Bool
is_open h = is_before_end (stage_of h)

-- a call of a client's number, or of a link's
abbrev pub of_client : (ℕ → Call) → Holder → Option Call
of_client call h = option_map call h.client

abbrev pub of_lease : (ℕ → Call) → Holder → Option Call
of_lease call h = option_map (λ (l : Lease). call l.number) h.lease

abbrev pub arrived : Beyond → Holder → Arrival → Holder
arrived beyond h (arrival.Client n) = record h { client = Some n; refused = None; last = Some (call.Arrive beyond) }
arrived beyond h (arrival.Refused refusal) = record h { refused = Some refusal; last = Some (call.Arrive beyond) }

abbrev pub asked_by : Holder → Asked → Holder
asked_by h (asked.Queued n) = record h { last = of_client call.Ask h }
asked_by h (asked.Refused refusal) = record h { refused = Some refusal; last = of_client call.Ask h }
asked_by h asked.Memory = h
asked_by h asked.Stranger = record h { last = of_client call.Ask h }

module _ {E : Type 0} where
  abbrev pub taken : Holder → Grant E → Holder
  taken h grant.Queued = h
  taken h (grant.Lend l) = record h { lease = Some (granted_lease l); last = of_client call.Take h }
  taken h (grant.Start number started_at evicted) = record h { lease = Some (record { number = number; started_at = started_at; stage = Granted }); last = of_client call.Take h }
  taken h (grant.Refused refusal) = record h { refused = Some refusal; last = of_client call.Take h }
  taken h grant.Stranger = record h { last = of_client call.Take h }

-- its lease is at this stage
abbrev pub at_stage : Stage → Holder → Holder
at_stage stage h = record h { lease = option_map (λ (l : Lease). record l { stage = stage }) h.lease }

-- it is keyed where the book did so
abbrev pub keyed_by : Keying → Holder → Holder
keyed_by keying.Done h = at_stage Keyed h
keyed_by _ h = h

abbrev pub keyed_lease : KeyView → KeyView → Holder → Keying → Holder
keyed_lease client server h r = record (keyed_by r h) { last = of_lease (λ n. call.Keyed n client server) h }

-- it has ended where no cancel was for it
abbrev pub ends_by : Release → Holder → Holder
ends_by release.Reset h = at_stage Ended h
ends_by _ h = h

abbrev pub released : Holder → Release → Holder
released h r = record (ends_by r h) { release = Some r; last = of_lease call.EndLease h }

abbrev pub target_in : Cancelled → Option Target
target_in (cancelled.Strike strike) = Some (target_of strike)
target_in _ = None

-- what was found is to be sent, and none was sent yet
abbrev pub cancelling : KeyView → Holder → Cancelled → Holder
cancelling client h r = record h { found = target_in r; struck = None; last = Some (call.Cancel client) }

-- what was found was sent
abbrev pub striking : Holder → Holder
striking h = record h { found = None; struck = h.found }

-- a cancel was asked for, and what was found was sent
abbrev pub cancelled_by : KeyView → Holder → Cancelled → Holder
cancelled_by client h r = record h { found = None; struck = target_in r; last = Some (call.Cancel client) }

-- by a link's return, its loss, or its start that failed
abbrev pub without_lease : (ℕ → Call) → Holder → Holder
without_lease call h = record h { lease = None; last = of_lease call h }

abbrev pub left : Holder → Holder
left h = record h { client = None; last = of_client call.Leave h }

-- the desk keeps the link where it is done, and else leaves it there
abbrev pub keeps : Back → Option LinkView → Option LinkView
keeps back.Done link = None
keeps back.Close link = link
keeps back.Last link = link
keeps back.Stranger link = link
