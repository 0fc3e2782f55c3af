use Rattle.std.proofs.Common.{Bool, List, ◌++◌, ap, ◌∙◌}
use Rattle.memory_ends.specs.Servers.{ServerOf}
use Rattle.memory_ends.proofs.Moving.{moves_serve}
use Rattle.memory_ends.proofs.memory_server.MemoryServer.serve.Goals as goal

pub returns-clause-moves : goal.returns-clause-moves
returns-clause-moves c =
    moves_serve c.self.inside.dialogue c.serve.new.self _ _ _ c.self.inside.struck.items _ _ _ _ _ (ap (λ (x : ServerOf). x.standing) c.self.view_is) c.requires c.serve.ensures.kept
    (c.in_ok-extend_from_slice.ensures.items ∙ ap (λ (l : List Bool). c.self.inside.struck.items ++ l) c.deref.ensures.value) c.in_ok-marks.ensures.served
