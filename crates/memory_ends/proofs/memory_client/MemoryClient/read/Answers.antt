use Rattle.std.proofs.Common.{◌∙◌, sym, ap, take, drop, arith, length-drop}
use Rattle.memory_ends.specs.Clients.{ClientOf}
use Rattle.memory_ends.proofs.Ends.{handed_out, copied, all_of}
use Rattle.memory_ends.proofs.memory_client.MemoryClient.read.Goals as goal

pub returns-clause-facts : goal.returns-clause-facts
returns-clause-facts c =
    let rest = all_of c.self.inside.at c.as_slice.result.now in
    handed_out c.args.self.now _ _ c.self.inside.input.items _ _ c.self.inside.at c.min-count.result _ _ (ap (λ (x : ClientOf). x.facts) c.self.view_is) (sym c.if-has_ended.ensures)
    (copied c.min-count.result (drop c.self.inside.at c.self.inside.input.items) c.copy_from_slice.new.self (drop c.min-count.result c.args.into.now) (c.copy_from_slice.ensures.after ∙ ap (take c.min-count.result) (rest ∙ ap (drop c.self.inside.at) c.as_slice.ensures)) (omega (arith, length-drop c.self.inside.at c.self.inside.input.items)))
