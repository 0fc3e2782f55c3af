use Rattle.world_leases.proofs.Groups.{book_keeps}
use Rattle.world_leases.proofs.book_steps_keep.Goals as goal

pub returns : goal.returns
returns c = let e = c.book_laws.ensures in book_keeps (record { plain = e.plain; arrives = e.arrives; asks = e.asks; lends = e.lends; starts = e.starts; evicts = e.evicts; gives_back = e.gives_back; too_late = e.too_late; tick = e.tick; hangs_up = e.hangs_up; keyed = e.keyed; cancels = e.cancels; resets = e.resets })
