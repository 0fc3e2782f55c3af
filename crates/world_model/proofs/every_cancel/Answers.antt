use Rattle.world_model.proofs.Cancelling.{unasked, open_own, open_stay}
use Rattle.world_model.proofs.every_cancel.Goals as goal

pub returns-clause-unasked : goal.returns-clause-unasked
returns-clause-unasked c = unasked (record { book = c.book_steps_keep.ensures; client = c.client_steps_keep.ensures; bytes = c.byte_steps_keep.ensures; link = c.link_steps_keep.ensures; end = c.end_steps_keep.ensures })

pub returns-clause-own : goal.returns-clause-own
returns-clause-own c = open_own (record { book = c.book_steps_keep.ensures; client = c.client_steps_keep.ensures; bytes = c.byte_steps_keep.ensures; link = c.link_steps_keep.ensures; end = c.end_steps_keep.ensures })

pub returns-clause-open : goal.returns-clause-open
returns-clause-open c = open_stay (record { book = c.book_steps_keep.ensures; client = c.client_steps_keep.ensures; bytes = c.byte_steps_keep.ensures; link = c.link_steps_keep.ensures; end = c.end_steps_keep.ensures })
