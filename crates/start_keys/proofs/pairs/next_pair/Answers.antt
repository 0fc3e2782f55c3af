use Rattle.start_keys.proofs.pairs.next_pair.Goals as goal

pub returns : goal.returns
returns c = c.next.ensures.steps
