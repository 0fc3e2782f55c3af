use Rattle.pool_serve.proofs.Again.{again_evens, evens_both, linked_at_last, linked_evens}
use Rattle.pool_serve.proofs.Leases.{leased_by}
use Rattle.pool_serve.proofs.worker.Worker.lease.Goals as goal

pub returns-in-Ok-clause-share : goal.returns-in-Ok-clause-share
returns-in-Ok-clause-share g c =
    let x = c.in-Ok.ensures.counted in
    evens_both _ x.last _ (again_evens x.again) (linked_evens x.last _ _ x.granted c.over_link.ensures.share)

pub returns-in-Ok-clause-leased : goal.returns-in-Ok-clause-leased
returns-in-Ok-clause-leased g c = leased_by _ _ _ c.in-Ok.ensures.held.client c.in-Ok.ensures.held.refused c.in-Ok.ensures.held.found c.in-Ok.ensures.held.struck c.over_link.result.1 c.over_link.ensures.frees

pub returns-in-Ok-clause-ended : goal.returns-in-Ok-clause-ended
returns-in-Ok-clause-ended g c =
    let x = c.in-Ok.ensures.counted in
    linked_at_last x.last _ _ _ _ _ _ c.over_link.result.1 x.again x.granted c.over_link.ensures.frees c.over_link.ensures.ended

pub returns-in-Err-clause-ended : goal.returns-in-Err-clause-ended
returns-in-Err-clause-ended g c =
    let x = c.in-Err.ensures.ended in
    record { last = x.last; again = x.again; ended = x.ended _ }
