use Rattle.std.proofs.Common.{inl, refl, sym, ap, ◌∙◌, subst, Option}
use Rattle.std.specs.Prelude.{IfSome}
use Rattle.message_view.specs.declared.refusal.Refusal.{Refusal}
use Rattle.relay_model.specs.Answers.{AtBorder, RefusedBy, phase_after}
use Rattle.relay_model.specs.Leases.{IsLease, Place}
use Rattle.pool_serve.proofs.Pumping.{Pumped, gone, goes_on, pumped_on}
use Rattle.pool_serve.proofs.relaying.pumped.Goals as goal
use Rattle.pool_serve.proofs.relaying.pumped.Goals.{in-Again, in-Wait}

pub loop-init : goal.loop-init
loop-init g c = inl (refl, refl)

pub loop-preserved : goal.loop-preserved
loop-preserved g c =
    let first = c.pump-next.new.self in
    let begun = c.pump-next.result in
    let phase = c.pump-next.ensures.phase c.requires.runs in
    let p = c.pump-next-in-loop in
    elim c.match-next.branch [
      | in-Again w ↦ goes_on first c.loop.relay p.new.self begun c.loop.next p.result phase c.loop.invariant (ap phase_after w.in-Again.is) p.ensures.lease p.ensures.judged p.ensures.refused p.ensures.phase
      | in-Wait w ↦ goes_on first c.loop.relay p.new.self begun c.loop.next p.result phase c.loop.invariant (ap phase_after w.in-Wait.is) p.ensures.lease p.ensures.judged p.ensures.refused p.ensures.phase
    ]

pub returns : goal.returns
returns g c =
    let began : Pumped _ c.pump-next.new.self c.pump-next.result = pumped_on _ _ c.pump-next.new.self c.pump-next.result (λ p x. x) c.requires.runs c.pump-next.ensures.lease c.pump-next.ensures.judged c.pump-next.ensures.refused c.pump-next.ensures.phase in
    let x : Pumped _ c.loop.relay c.loop.next = gone _ _ c.loop.relay c.pump-next.result c.loop.next began c.loop.invariant in
    record {
      keeps = x.keeps;
      told = c.refusal_told.ensures ∙ x.told;
      refused = subst (λ (o : Option Refusal). IfSome o (λ r. (p : Place) → IsLease p c.args.relay.now → AtBorder p c.loop.relay × RefusedBy p c.loop.relay r)) (sym c.refusal_told.ensures) x.refused;
    }
