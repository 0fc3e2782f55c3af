use Rattle.console_run.proofs.Talking.{wrote_last, wrote_none, wrote_some}
use Rattle.console_run.proofs.talk.Talk.write.Goals as goal

pub returns-in-Count : goal.returns-in-Count
returns-in-Count g c = wrote_some _ _ _ _ _ c.as_slice.result.now _ _ c.in-Count.count c.self.view_is c.as_slice.ensures c.advance.ensures.items c.in-Count.ensures.within c.in-Count.ensures.writes

pub returns-in-NotNow : goal.returns-in-NotNow
returns-in-NotNow g c = wrote_none _ _ _ _ _ _ c.self.view_is c.in-NotNow.ensures.writes

pub returns-in-Ended : goal.returns-in-Ended
returns-in-Ended g c = wrote_last _ _ _ _ _ c.as_slice.result.now _ c.write_some.result c.self.view_is c.in-Ended.is c.write_some.ensures.writes
