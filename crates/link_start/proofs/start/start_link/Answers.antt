use Rattle.std.proofs.Common.{◌≡◌, ◌≢◌, arith, sym, ◌∙◌, subst}
use Rattle.std.specs.Prelude.{IfErr}
use Rattle.std.specs.Arc.{arc_value}
use Rattle.session_values.specs.State.{StartKeyOf}
use Rattle.link_model.specs.Standing.{Standing}
use Rattle.link_start.specs.declared.start.Progress.TheVariants.{Idle, Moved, Ready}
use Rattle.link_start.specs.declared.start.StartCause.{StartCause}
use Rattle.link_start.specs.Starts.{HasTried, IsStartCause, IsLinkKey}
use Rattle.link_start.proofs.Starting.{can_at, done_from, has_tried}
use Rattle.link_start.proofs.start.start_link.Goals as goal

pub returns-in-Ok-Ready-clause-started : goal.returns-in-Ok-Ready-clause-started
returns-in-Ok-Ready-clause-started g c =
    c.finish.ensures.started _ _ (done_from _ _ _ _ _ c.requires.can_start c.requires.key c.loop-left.invariant.key c.in-Ok-Ready.ensures.same.0 c.loop-left.invariant.under_way (c.in-Ok-Ready.ensures.under_way _) (c.in-Ok-Ready.ensures.welcomed c.in-Ok-Ready.field-0-is))

pub returns-in-Ok-Ready-clause-own_key : goal.returns-in-Ok-Ready-clause-own_key
returns-in-Ok-Ready-clause-own_key g c =
    c.finish.ensures.own_key _ _ (done_from _ c.args.credential.now _ _ _ c.requires.can_start c.requires.key c.loop-left.invariant.key c.in-Ok-Ready.ensures.same.0 c.loop-left.invariant.under_way (c.in-Ok-Ready.ensures.under_way _) (c.in-Ok-Ready.ensures.welcomed c.in-Ok-Ready.field-0-is))

pub returns-in-Ok-Ready-clause-cause : goal.returns-in-Ok-Ready-clause-cause
returns-in-Ok-Ready-clause-cause g c =
    subst (λ (k : StartKeyOf). IfErr c.finish.result (λ f. IsStartCause (g.E.ServerEnd.standing c.args.end) (g.E.ServerEnd.standing f.end) c.args.credential.now k f.cause)) (c.in-Ok-Ready.ensures.same.0 ∙ c.loop-left.invariant.key)
    (c.finish.ensures.cause _ _ (done_from _ _ _ _ _ c.requires.can_start c.requires.key c.loop-left.invariant.key c.in-Ok-Ready.ensures.same.0 c.loop-left.invariant.under_way (c.in-Ok-Ready.ensures.under_way _) (c.in-Ok-Ready.ensures.welcomed c.in-Ok-Ready.field-0-is)))

pub returns-in-Err-clause-cause : goal.returns-in-Err-clause-cause
returns-in-Err-clause-cause g c =
    subst (λ (k : StartKeyOf). IsStartCause (g.E.ServerEnd.standing c.args.end) (g.E.ServerEnd.standing c.fail-in-Err.result.end) c.args.credential.now k c.fail-in-Err.result.cause) c.loop-left.invariant.key
    (subst (λ (s : Standing). IsStartCause (g.E.ServerEnd.standing c.args.end) s c.args.credential.now c.loop-left.start.key c.fail-in-Err.result.cause) (sym c.fail-in-Err.ensures.end)
    (subst (λ (cause : StartCause). IsStartCause (g.E.ServerEnd.standing c.args.end) c.turn.new.self.end c.args.credential.now c.loop-left.start.key cause) (sym c.fail-in-Err.ensures.cause)
    (c.in-Err.ensures.cause _ (can_at _ _ _ _ c.loop-left.invariant.key c.requires.can_start) (subst (λ (k : StartKeyOf). IsLinkKey k) (sym c.loop-left.invariant.key) c.requires.key) c.loop-left.invariant.under_way)))

pub returns-clause-turns : goal.returns-clause-turns
returns-clause-turns g c = λ _.
    subst (λ (s : Standing). HasTried (g.E.ServerEnd.standing c.args.end) c.args.credential.now (arc_value c.args.key) s c.args.turns) (sym c.fail-2.ensures.end)
    (subst (λ (k : StartKeyOf). HasTried (g.E.ServerEnd.standing c.args.end) c.args.credential.now k c.loop-left.start.end c.args.turns) c.loop-left.invariant.key
    (has_tried _ _ c.loop-left.start _ c.loop-left.invariant.under_way (omega (arith, c.loop-left.invariant.tried, c.loop-left-test.false)) c.loop-left.invariant.waits))

pub returns-then-is_late-clause-unanswered : goal.returns-then-is_late-clause-unanswered
returns-then-is_late-clause-unanswered g c = λ _.
    subst (λ (s : Standing). HasTried (g.E.ServerEnd.standing c.args.end) c.args.credential.now (arc_value c.args.key) s 0) (sym c.fail.ensures.end)
    (subst (λ (k : StartKeyOf). HasTried (g.E.ServerEnd.standing c.args.end) c.args.credential.now k c.loop-left.start.end 0) c.loop-left.invariant.key
    (has_tried _ _ c.loop-left.start _ c.loop-left.invariant.under_way (omega (arith, c.loop-left.invariant.tried, c.loop-left.invariant.fewer)) c.loop-left.invariant.waits))

pub loop-left-preserved-in-Ok-Idle : goal.loop-left-preserved-in-Ok-Idle
loop-left-preserved-in-Ok-Idle g c =
    let more : c.in-Ok-Idle.field-0 ≢ Ready = λ r. let z : Idle ≡ Ready = sym c.in-Ok-Idle.field-0-is ∙ r in cc in
    record {
      under_way = c.in-Ok-Idle.ensures.under_way _ (can_at _ _ _ _ c.loop-left.invariant.key c.requires.can_start) (subst (λ (k : StartKeyOf). IsLinkKey k) (sym c.loop-left.invariant.key) c.requires.key) c.loop-left.invariant.under_way;
      key = c.in-Ok-Idle.ensures.same.0 ∙ c.loop-left.invariant.key;
      number = c.in-Ok-Idle.ensures.same.1 ∙ c.loop-left.invariant.number;
      started_at = c.in-Ok-Idle.ensures.same.2 ∙ c.loop-left.invariant.started_at;
      short = c.in-Ok-Idle.ensures.short more c.loop-left.invariant.short;
      fewer = omega (arith, c.loop-left.invariant.fewer);
      tried = omega (arith, c.in-Ok-Idle.ensures.idle c.in-Ok-Idle.field-0-is, c.loop-left.invariant.tried, c.loop-left-test.true);
      waits = c.in-Ok-Idle.ensures.waits more;
      taken = omega (arith, c.is_late.ensures.turns, c.turn_of_link.ensures, c.in-Ok-Idle.ensures.counts.1, c.loop-left.invariant.taken, c.loop-left-test.true);
      paced = omega (arith, c.is_late.ensures.turns, c.turn_of_link.ensures, c.in-Ok-Idle.ensures.once, c.loop-left.invariant.paced);
    }

pub loop-left-preserved : goal.loop-left-preserved
loop-left-preserved g c =
    let more : c.in-Ok-Moved.field-0 ≢ Ready = λ r. let z : Moved ≡ Ready = sym c.in-Ok-Moved.field-0-is ∙ r in cc in
    record {
      under_way = c.in-Ok-Moved.ensures.under_way _ (can_at _ _ _ _ c.loop-left.invariant.key c.requires.can_start) (subst (λ (k : StartKeyOf). IsLinkKey k) (sym c.loop-left.invariant.key) c.requires.key) c.loop-left.invariant.under_way;
      key = c.in-Ok-Moved.ensures.same.0 ∙ c.loop-left.invariant.key;
      number = c.in-Ok-Moved.ensures.same.1 ∙ c.loop-left.invariant.number;
      started_at = c.in-Ok-Moved.ensures.same.2 ∙ c.loop-left.invariant.started_at;
      short = c.in-Ok-Moved.ensures.short more c.loop-left.invariant.short;
      fewer = c.loop-left.invariant.fewer;
      tried = omega (arith, c.in-Ok-Moved.ensures.counts.0, c.loop-left.invariant.tried);
      waits = c.in-Ok-Moved.ensures.waits more;
      taken = omega (arith, c.is_late.ensures.turns, c.turn_of_link.ensures, c.in-Ok-Moved.ensures.moved c.in-Ok-Moved.field-0-is, c.loop-left.invariant.taken);
      paced = omega (arith, c.is_late.ensures.turns, c.turn_of_link.ensures, c.in-Ok-Moved.ensures.once, c.loop-left.invariant.paced);
    }

pub finish-requires : goal.finish-requires
finish-requires g c = (
  g.E.ServerEnd.standing c.args.end,
  (c.args.credential.now, done_from _ _ _ _ _ c.requires.can_start c.requires.key c.loop-left.invariant.key c.in-Ok-Ready.ensures.same.0 c.loop-left.invariant.under_way (c.in-Ok-Ready.ensures.under_way _) (c.in-Ok-Ready.ensures.welcomed c.in-Ok-Ready.field-0-is)),
)
