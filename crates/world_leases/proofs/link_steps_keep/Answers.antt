use Rattle.world_leases.proofs.Groups.{links_keep}
use Rattle.world_leases.proofs.link_steps_keep.Goals as goal

pub returns : goal.returns
returns c = links_keep c.start_error_is_frame.ensures c.book_laws.ensures.resets
