use Rattle.memory_dial.proofs.strikable.StrikableDialOutside.dial.Goals as goal

pub returns : goal.returns
returns g c = c.in_ok-server.ensures.dialled c.args._key.now c.args._credential.now
