use Rattle.std.proofs.Common.{[], refl, sym, ap, ◌∙◌, subst}
use Rattle.link_desk.specs.declared.calls.Holder.{Holder}
use Rattle.link_desk.specs.Passes.{PassOf}
use Rattle.pool_serve.specs.Again.{HasAskedAgain}
use Rattle.pool_serve.specs.Again.HasAskedAgain.{never}
use Rattle.pool_serve.specs.Causes.{AtAsking}
use Rattle.pool_serve.specs.Endings.{HasEnded, refusal_in}
use Rattle.pool_serve.specs.Serving.{owed}
use Rattle.pool_serve.specs.Shares.{Evens}
use Rattle.pool_serve.proofs.Again.{again_evens, evens_both, one_more}
use Rattle.pool_serve.proofs.Telling.{nothing_more, none_ends}
use Rattle.pool_serve.proofs.worker.Worker.link.Goals as goal

pub loop-init : goal.loop-init
loop-init g c = (never, refl, c.requires.none, c.requires.unrefused, refl, refl)

pub returns-then-not-lacks_place-clause-share : goal.returns-then-not-lacks_place-clause-share
returns-then-not-lacks_place-clause-share g c = evens_both _ _ _ (again_evens c.loop.invariant.0) c.in-Err.ensures.share

pub returns-then-not-lacks_place-clause-ended : goal.returns-then-not-lacks_place-clause-ended
returns-then-not-lacks_place-clause-ended g c = record { last = g.D.LinkDesk.counted c.loop.self.pass; again = c.loop.invariant.0; ended = c.in-Err.ensures.ended }

pub returns-then-not-may_ask_again-clause-share : goal.returns-then-not-may_ask_again-clause-share
returns-then-not-may_ask_again-clause-share g c =
    subst (λ (q : PassOf). Evens (g.D.LinkDesk.counted c.args.self.now.pass) q) (sym c.may_ask_again.ensures.counted) (evens_both _ _ _ (again_evens c.loop.invariant.0) c.in-Err.ensures.share)

pub returns-then-not-may_ask_again-clause-ended : goal.returns-then-not-may_ask_again-clause-ended
returns-then-not-may_ask_again-clause-ended g c =
    let last = g.D.LinkDesk.counted c.loop.self.pass in
    record {
      last = last;
      again = c.loop.invariant.0;
      ended = λ f. subst (λ (q : PassOf). HasEnded g.D.LinkDesk.home c.args.logged_in.now AtAsking last q f f c.in-Err.ending) (sym c.may_ask_again.ensures.counted) (c.in-Err.ensures.ended f);
    }

pub loop-preserved : goal.loop-preserved
loop-preserved g c =
    let lacks = sym c.lacks_place.ensures ∙ c.if-not-lacks_place.false in
    let failed = c.in-Err.ensures.failed lacks in
    let leased = c.in-Err.ensures.leased in
    let more = one_more _ _ c.in-Err.ending c.loop.invariant.0 lacks failed in (
      subst (λ (q : PassOf). HasAskedAgain g.D.LinkDesk.home c.args.logged_in.now (g.D.LinkDesk.counted c.args.self.now.pass) q) (sym c.may_ask_again.ensures.counted) more,
      ap (λ (h : Holder). h.client) c.may_ask_again.ensures.holder ∙ (leased.client ∙ c.loop.invariant.1),
      ap (λ (h : Holder). h.lease) c.may_ask_again.ensures.holder ∙ leased.lease,
      ap (λ (h : Holder). h.refused) c.may_ask_again.ensures.holder ∙ (leased.refused ∙ ap refusal_in failed.is_ending),
      ap (λ (h : Holder). h.found) c.may_ask_again.ensures.holder ∙ (leased.found ∙ c.loop.invariant.4),
      ap (λ (h : Holder). h.struck) c.may_ask_again.ensures.holder ∙ (leased.struck ∙ c.loop.invariant.5),
    )

pub returns-clause-share : goal.returns-clause-share
returns-clause-share g c = again_evens c.loop.invariant.0

pub returns-clause-ended : goal.returns-clause-ended
returns-clause-ended g c = record {
  last = g.D.LinkDesk.counted c.loop.self.pass;
  again = c.loop.invariant.0;
  ended = λ f. record {
    tells = refl;
    traces = refl;
    came = refl;
    serves = λ t l. nothing_more _ _ _ _ _ tt (none_ends (owed g.D.LinkDesk.home.catalogue c.args.logged_in.now [] []));
  };
}
