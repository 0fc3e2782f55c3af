use Rattle.std.proofs.Common.{[], inl, refl}
use Rattle.message_view.specs.declared.refusal.Refusal.TheVariants.{LastDecision}
use Rattle.pool_serve.specs.Serving.{owed}
use Rattle.pool_serve.proofs.Freeing.{still_broken}
use Rattle.pool_serve.proofs.Telling.{nothing_more, none_ends, refusal_ends}
use Rattle.pool_serve.proofs.worker.Worker.over_link.Goals as goal

pub returns-in-Last-clause-ended : goal.returns-in-Last-clause-ended
returns-in-Last-clause-ended g c = record {
  tells = refl;
  traces = still_broken (g.D.LinkDesk.counted c.args.self.now.pass) (g.D.LinkDesk.counted c.keyed.new.pass) (g.D.LinkDesk.counted c.drop_link.new.self.pass) c.in-Last.ensures.counted c.drop_link.ensures.share;
  came = refl;
  serves = λ t l. nothing_more _ _ _ _ _ tt (refusal_ends (owed g.D.LinkDesk.home.catalogue c.args.logged_in.now [] []) LastDecision);
}

pub returns-in-Stranger-clause-ended : goal.returns-in-Stranger-clause-ended
returns-in-Stranger-clause-ended g c = record {
  tells = refl;
  traces = inl (still_broken (g.D.LinkDesk.counted c.args.self.now.pass) (g.D.LinkDesk.counted c.keyed.new.pass) (g.D.LinkDesk.counted c.drop_link-in-Stranger.new.self.pass) c.in-Stranger.ensures.counted c.drop_link-in-Stranger.ensures.share);
  came = refl;
  serves = λ t l. nothing_more _ _ _ _ _ tt (none_ends (owed g.D.LinkDesk.home.catalogue c.args.logged_in.now [] []));
}
