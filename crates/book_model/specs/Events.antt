-- The program's events, as the definition has them.
use Rattle.std.specs.Arc.{arc_value}
use Rattle.book_model.specs.Outcomes.{Change, Event}
use Rattle.book_model.specs.Outcomes.Change.{NewLimits, Pause, Resume, Shutdown, Reconnect}
use Rattle.book_model.specs.Outcomes.Event.{Arrive, Ask, Take, Lost, StartFailed, Leave, Tick, Makes, Keyed, Cancel, EndLease, HungUp}
use Rattle.book_model.specs.declared.events.Change as changes
use Rattle.book_model.specs.declared.events.Change.TheVariants as to
use Rattle.book_model.specs.declared.events.Event as program
use Rattle.book_model.specs.declared.events.Event.TheVariants as its

abbrev pub change_of : changes.Change → Change
change_of (to.Limits limits) = NewLimits (arc_value limits)
change_of to.Pause = Pause
change_of to.Resume = Resume
change_of to.Shutdown = Shutdown
change_of to.Reconnect = Reconnect

abbrev pub event_of : program.Event → Event
event_of (its.Arrive beyond) = Arrive beyond
event_of (its.Ask client key) = Ask client (arc_value key)
event_of (its.Take client) = Take client
event_of (its.Lost link) = Lost link
event_of (its.StartFailed link) = StartFailed link
event_of (its.Leave client) = Leave client
event_of (its.Tick now) = Tick now
event_of (its.Change change) = Makes (change_of change)
event_of (its.Keyed link client server) = Keyed link client server
event_of (its.Cancel client) = Cancel client
event_of (its.EndLease link) = EndLease link
event_of (its.HungUp link) = HungUp link
