use Rattle.std.proofs.Common.{◌∙◌, refl, ap, take, drop, arith}
use Rattle.memory_ends.specs.Servers.{ServerOf}
use Rattle.memory_ends.proofs.Ends.{copied}
use Rattle.memory_ends.proofs.Moving.{moves_out, at_most_within}
use Rattle.memory_ends.proofs.memory_server.MemoryServer.hand_out.Goals as goal

pub returns-clause-moves : goal.returns-clause-moves
returns-clause-moves c =
    moves_out c.self.inside.dialogue (record c.self.inside.dialogue { outbox = c.advance.new.self }) _ _ _ _ _ _ _ _ _ _ c.at_most-count.result _ _ (ap (λ (x : ServerOf). x.standing) c.self.view_is) c.requires.lives refl refl refl c.advance.ensures.items
    (copied c.at_most-count.result c.self.inside.dialogue.outbox.items c.copy_from_slice.new.self (drop c.at_most-count.result c.args.into.now) (c.copy_from_slice.ensures.after ∙ ap (take c.at_most-count.result) c.as_slice.ensures)
    (omega (arith, at_most_within c.self.inside.left c.min-count.result, c.at_most-count.ensures)))
    c.note.ensures
