use Rattle.std.proofs.Common.{[], inl, refl, ap, ◌∙◌}
use Rattle.link_desk.specs.declared.calls.Holder.{Holder}
use Rattle.link_desk.specs.Passes.{PassOf}
use Rattle.pool_serve.specs.Serving.{owed}
use Rattle.pool_serve.proofs.Causing.{grant_fault, grant_traces}
use Rattle.pool_serve.proofs.Linking.{lent_ended, new_ended}
use Rattle.pool_serve.proofs.Telling.{nothing_more, none_ends, refusal_ends}
use Rattle.pool_serve.proofs.worker.Worker.take_link.Goals as goal

pub returns-in-Refused-clause-ended : goal.returns-in-Refused-clause-ended
returns-in-Refused-clause-ended g c = λ f. record {
  tells = refl;
  traces = grant_traces _ _ c.in-Refused.refusal c.in-Refused.ensures.counted c.in-Refused.ensures.refused;
  came = refl;
  serves = λ t l. nothing_more _ _ _ _ _ (grant_fault _ [] c.in-Refused.refusal c.in-Refused.ensures.refused) (refusal_ends _ c.in-Refused.refusal);
}

pub returns-in-Stranger-clause-ended : goal.returns-in-Stranger-clause-ended
returns-in-Stranger-clause-ended g c = λ f. record {
  tells = refl;
  traces = inl (ap (λ (p : PassOf). p.is_broken) c.in-Stranger.ensures.counted);
  came = refl;
  serves = λ t l. nothing_more _ _ _ _ _ tt (none_ends (owed g.D.LinkDesk.home.catalogue c.args.logged_in.now [] []));
}

pub returns-in-Queued-clause-ended : goal.returns-in-Queued-clause-ended
returns-in-Queued-clause-ended g c = λ f. record {
  tells = refl;
  traces = ap (λ (p : PassOf). p.made.granted) c.in-Queued.ensures.counted;
  came = refl;
  serves = λ t l. nothing_more _ _ _ _ _ tt (none_ends (owed g.D.LinkDesk.home.catalogue c.args.logged_in.now [] []));
}

pub returns-in-Lend-clause-ended : goal.returns-in-Lend-clause-ended
returns-in-Lend-clause-ended g c =
    lent_ended g.D.LinkDesk.home c.args.logged_in.now _ _ _ (g.D.LinkDesk.holder c.args.self.now.pass) (g.D.LinkDesk.holder c.take_in_turn.new.self.pass) _ c.in-Lend.ensures.counted (ap (λ (h : Holder). h.client) c.in-Lend.ensures.holder) (ap (λ (h : Holder). h.refused) c.in-Lend.ensures.holder ∙ c.requires.unrefused) (ap (λ (h : Holder). h.found) c.in-Lend.ensures.holder) (ap (λ (h : Holder). h.struck) c.in-Lend.ensures.holder) c.lent_link.result
    c.lent_link.ensures.strange
    c.lent_link.ensures.lost
    c.lent_link.ensures.freed

pub returns-after-evicted-clause-ended : goal.returns-after-evicted-clause-ended
returns-after-evicted-clause-ended g c =
    new_ended g.D.LinkDesk.home c.args.logged_in.now _ _ _ (g.D.LinkDesk.holder c.args.self.now.pass) (g.D.LinkDesk.holder c.take_in_turn.new.self.pass) _ c.in-Start.ensures.counted (ap (λ (h : Holder). h.client) c.in-Start.ensures.holder) (ap (λ (h : Holder). h.refused) c.in-Start.ensures.holder ∙ c.requires.unrefused) (ap (λ (h : Holder). h.found) c.in-Start.ensures.holder) (ap (λ (h : Holder). h.struck) c.in-Start.ensures.holder) c.new_link.result
    c.new_link.ensures.why
    c.new_link.ensures.word
    c.new_link.ensures.failed
    c.new_link.ensures.freed
