use Rattle.world_model.proofs.Every.{apart, every, outs, one_client, idle_fresh, leases_exact, all_served}
use Rattle.world_model.proofs.every_world.Goals as goal

pub returns-clause-allowed : goal.returns-clause-allowed
returns-clause-allowed c = every (record { book = c.book_steps_keep.ensures; client = c.client_steps_keep.ensures; bytes = c.byte_steps_keep.ensures; link = c.link_steps_keep.ensures; end = c.end_steps_keep.ensures })

pub returns-clause-outs : goal.returns-clause-outs
returns-clause-outs c = outs (record { book = c.book_steps_keep.ensures; client = c.client_steps_keep.ensures; bytes = c.byte_steps_keep.ensures; link = c.link_steps_keep.ensures; end = c.end_steps_keep.ensures })

pub returns-clause-apart : goal.returns-clause-apart
returns-clause-apart c = apart (record { book = c.book_steps_keep.ensures; client = c.client_steps_keep.ensures; bytes = c.byte_steps_keep.ensures; link = c.link_steps_keep.ensures; end = c.end_steps_keep.ensures })

pub returns-clause-one_client : goal.returns-clause-one_client
returns-clause-one_client c = one_client (record { book = c.book_steps_keep.ensures; client = c.client_steps_keep.ensures; bytes = c.byte_steps_keep.ensures; link = c.link_steps_keep.ensures; end = c.end_steps_keep.ensures })

pub returns-clause-idle_fresh : goal.returns-clause-idle_fresh
returns-clause-idle_fresh c = idle_fresh (record { book = c.book_steps_keep.ensures; client = c.client_steps_keep.ensures; bytes = c.byte_steps_keep.ensures; link = c.link_steps_keep.ensures; end = c.end_steps_keep.ensures })

pub returns-clause-exact : goal.returns-clause-exact
returns-clause-exact c = leases_exact (record { book = c.book_steps_keep.ensures; client = c.client_steps_keep.ensures; bytes = c.byte_steps_keep.ensures; link = c.link_steps_keep.ensures; end = c.end_steps_keep.ensures })

pub returns-clause-whole : goal.returns-clause-whole
returns-clause-whole c = all_served (record { book = c.book_steps_keep.ensures; client = c.client_steps_keep.ensures; bytes = c.byte_steps_keep.ensures; link = c.link_steps_keep.ensures; end = c.end_steps_keep.ensures })
