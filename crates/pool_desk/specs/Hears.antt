-- Who holds a pass after an event that was made through it.
use Rattle.std.specs.Prelude.{Option, Some, None}
use Rattle.book_model.specs.Outcomes.{Change, Event}
use Rattle.book_model.specs.Outcomes.Change.{NewLimits, Pause, Resume, Shutdown, Reconnect}
use Rattle.book_model.specs.Outcomes.Event.{Arrive, Ask, Take, GiveBack, Lost, StartFailed, Leave, Tick, Makes, Cancel, EndLease, HungUp}
use Rattle.book_model.specs.Outcomes.Event.{Keyed as IsKeyed}
use Rattle.lease_book.specs.declared.events.BookReply.{BookReply}
use Rattle.lease_book.specs.declared.events.BookReply.TheVariants as reply
use Rattle.link_desk.specs.Passes.{at_stage, granted_lease}
use Rattle.link_desk.specs.declared.answers.Release.TheVariants as release
use Rattle.link_desk.specs.declared.answers.Target.{Target}
use Rattle.link_desk.specs.declared.calls.Call.{Call}
use Rattle.link_desk.specs.declared.calls.Call.TheVariants as call
use Rattle.link_desk.specs.declared.calls.Holder.{Holder}
use Rattle.link_desk.specs.declared.calls.Stage.TheVariants.{Granted, Keyed, Ended}

-- the call that a change is
abbrev pub call_of_change : Change → Call
call_of_change (NewLimits limits) = call.Limits
call_of_change Pause = call.Pause
call_of_change Resume = call.Resume
call_of_change Shutdown = call.Shutdown
call_of_change Reconnect = call.Reconnect

-- the call that an event is
abbrev pub call_of : Event → Call
call_of (Arrive beyond) = call.Arrive beyond
call_of (Ask client key) = call.Ask client
call_of (Take client) = call.Take client
call_of (GiveBack n) = call.GiveBack n
call_of (Lost n) = call.Lost n
call_of (StartFailed n) = call.StartFailed n
call_of (Leave client) = call.Leave client
call_of (Tick now) = call.Tick now
call_of (Makes change) = call_of_change change
call_of (IsKeyed n client server) = call.Keyed n client server
call_of (Cancel client) = call.Cancel client
call_of (EndLease n) = call.EndLease n
call_of (HungUp n) = call.HungUp n

module _ {E : Type 0} where
  -- what a cancel is for that is to be sent by a reply
  abbrev pub target_in : BookReply E → Option Target
  target_in (reply.Strike n server host port) = Some (record { link = n; server = server })
  target_in _ = None

  -- by the call and its reply: each call is the last, but for a client's that waits on
  abbrev pub heard : Holder → Call → BookReply E → Holder
  heard h (call.Arrive beyond) (reply.Client n) = record h { client = Some n; refused = None; last = Some (call.Arrive beyond) }
  heard h (call.Arrive beyond) (reply.Refuse refusal back) = record h { refused = Some refusal; last = Some (call.Arrive beyond) }
  heard h (call.Ask client) (reply.Refuse refusal back) = record h { refused = Some refusal; last = Some (call.Ask client) }
  heard h (call.Take client) (reply.Refuse refusal back) = record h { refused = Some refusal; last = Some (call.Take client) }
  heard h (call.Take client) (reply.Queued before) = h
  heard h (call.Take client) (reply.Lend l) = record h { lease = Some (granted_lease l); last = Some (call.Take client) }
  heard h (call.Take client) (reply.Start n started_at evicted) = record h { lease = Some (record { number = n; started_at = started_at; stage = Granted }); last = Some (call.Take client) }
  heard h (call.Keyed n client server) reply.Done = record (at_stage Keyed h) { last = Some (call.Keyed n client server) }
  heard h (call.EndLease n) reply.Reset = record (at_stage Ended h) { release = Some release.Reset; last = Some (call.EndLease n) }
  heard h (call.EndLease n) reply.Dispose = record h { release = Some release.Dispose; last = Some (call.EndLease n) }
  heard h (call.EndLease n) (reply.Refuse refusal back) = record h { release = Some release.Last; last = Some (call.EndLease n) }
  heard h (call.EndLease n) (reply.Stranger back) = record h { release = Some release.Stranger; last = Some (call.EndLease n) }
  heard h (call.GiveBack n) told = record h { lease = None; last = Some (call.GiveBack n) }
  heard h (call.Lost n) told = record h { lease = None; last = Some (call.Lost n) }
  heard h (call.StartFailed n) told = record h { lease = None; last = Some (call.StartFailed n) }
  heard h (call.Cancel client) told = record h { found = target_in told; struck = None; last = Some (call.Cancel client) }
  heard h (call.Leave client) told = record h { client = None; last = Some (call.Leave client) }
  heard h made told = record h { last = Some made }
