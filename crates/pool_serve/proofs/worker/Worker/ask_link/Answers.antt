use Rattle.std.proofs.Common.{[], inl, refl, ap}
use Rattle.link_desk.specs.declared.calls.Holder.{Holder}
use Rattle.message_view.specs.declared.refusal.Refusal.TheVariants.{OutOfMemory}
use Rattle.link_desk.specs.Passes.{PassOf}
use Rattle.pool_serve.specs.Serving.{owed}
use Rattle.pool_serve.proofs.Causing.{asking_fault, asking_traces}
use Rattle.pool_serve.proofs.Linking.{queued_ends}
use Rattle.pool_serve.proofs.Telling.{nothing_more, none_ends, refusal_ends}
use Rattle.pool_serve.proofs.worker.Worker.ask_link.Goals as goal

pub returns-in-Refused-clause-ended : goal.returns-in-Refused-clause-ended
returns-in-Refused-clause-ended g c = λ f. record {
  tells = refl;
  traces = asking_traces _ _ c.in-Refused.refusal c.in-Refused.ensures.counted c.in-Refused.ensures.refused;
  came = refl;
  serves = λ t l. nothing_more _ _ _ _ _ (asking_fault _ [] c.in-Refused.refusal c.in-Refused.ensures.refused) (refusal_ends _ c.in-Refused.refusal);
}

pub returns-in-Memory-clause-ended : goal.returns-in-Memory-clause-ended
returns-in-Memory-clause-ended g c = λ f. record {
  tells = refl;
  traces = tt;
  came = refl;
  serves = λ t l. nothing_more _ _ _ _ _ tt (refusal_ends _ OutOfMemory);
}

pub returns-in-Stranger-clause-ended : goal.returns-in-Stranger-clause-ended
returns-in-Stranger-clause-ended g c = λ f. record {
  tells = refl;
  traces = inl (ap (λ (p : PassOf). p.is_broken) c.in-Stranger.ensures.counted);
  came = refl;
  serves = λ t l. nothing_more _ _ _ _ _ tt (none_ends (owed g.D.LinkDesk.home.catalogue c.args.logged_in.now [] []));
}

pub returns-in-Queued-clause-ended : goal.returns-in-Queued-clause-ended
returns-in-Queued-clause-ended g c =
    let before = c.args.self.now.pass in
    let asked = c.ask.new.pass in
    let after = c.take_link.new.self.pass in
    queued_ends g.D.LinkDesk.home c.args.logged_in.now (g.D.LinkDesk.counted before) (g.D.LinkDesk.counted asked) (g.D.LinkDesk.counted after) (g.D.LinkDesk.holder before) (g.D.LinkDesk.holder asked) (g.D.LinkDesk.holder after) c.in-Queued.ensures.counted (ap (λ (h : Holder). h.client) c.in-Queued.ensures.holder) (ap (λ (h : Holder). h.found) c.in-Queued.ensures.holder) (ap (λ (h : Holder). h.struck) c.in-Queued.ensures.holder) c.take_link.result
    c.take_link.ensures.ended
