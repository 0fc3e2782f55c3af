use Rattle.param_track.proofs.Reporting.{tell_is}
use Rattle.param_track.proofs.reported.tell_at.Goals as goal

pub returns : goal.returns
returns c = tell_is c.args.reports.now.items _ c.args.place _ _ c.requires.place c.requires.there c.index_mut.ensures.value c.tell.ensures
