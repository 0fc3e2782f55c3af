use Rattle.book_model.proofs.Outcomes.{plain_events_add_nothing, arrivals_number, asks_queue, takes_lend, takes_start, takes_evict, returns_add, returns_close, ticks_close, hang_ups_close, keyed_keys, cancels_strike, resets_release}
use Rattle.book_model.proofs.book_laws.Goals as goal

pub returns-clause-plain : goal.returns-clause-plain
returns-clause-plain c = plain_events_add_nothing

pub returns-clause-arrives : goal.returns-clause-arrives
returns-clause-arrives c = arrivals_number

pub returns-clause-asks : goal.returns-clause-asks
returns-clause-asks c = asks_queue

pub returns-clause-lends : goal.returns-clause-lends
returns-clause-lends c = takes_lend

pub returns-clause-starts : goal.returns-clause-starts
returns-clause-starts c = takes_start

pub returns-clause-evicts : goal.returns-clause-evicts
returns-clause-evicts c = takes_evict

pub returns-clause-gives_back : goal.returns-clause-gives_back
returns-clause-gives_back c = returns_add

pub returns-clause-too_late : goal.returns-clause-too_late
returns-clause-too_late c = returns_close

pub returns-clause-tick : goal.returns-clause-tick
returns-clause-tick c = ticks_close

pub returns-clause-hangs_up : goal.returns-clause-hangs_up
returns-clause-hangs_up c = hang_ups_close

pub returns-clause-keyed : goal.returns-clause-keyed
returns-clause-keyed c = keyed_keys

pub returns-clause-cancels : goal.returns-clause-cancels
returns-clause-cancels c = cancels_strike

pub returns-clause-resets : goal.returns-clause-resets
returns-clause-resets c = resets_release
