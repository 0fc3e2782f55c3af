use Rattle.std.proofs.Common.{arith}
use Rattle.console_run.proofs.Talking.{took_last, took_none, took_some}
use Rattle.console_run.proofs.talk.Talk.read.Goals as goal

pub returns-in-Count : goal.returns-in-Count
returns-in-Count g c = took_some _ _ _ _ c.reserve.new.self.items c.read_some.new.into _ _ _ c.in-Count.count c.self.view_is c.reserve.ensures.items c.extend_reserved.ensures.items (c.in-Count.ensures.within.0, omega (arith, c.in-Count.ensures.within.1, c.read_some.auto.into)) c.in-Count.ensures.reads

pub returns-in-NotNow : goal.returns-in-NotNow
returns-in-NotNow g c = took_none _ _ _ _ _ _ _ c.self.view_is c.reserve.ensures.items c.in-NotNow.ensures.reads

pub returns-in-Ended : goal.returns-in-Ended
returns-in-Ended g c = took_last _ _ _ _ _ c.read_some.new.into _ _ c.read_some.result c.self.view_is c.reserve.ensures.items c.in-Ended.is c.read_some.ensures.reads
