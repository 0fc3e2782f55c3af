use Rattle.std.proofs.Common.{◌∙◌, sym, ap, length, take, drop, arith, length-drop}
use Rattle.memory_ends.proofs.Ends.{copied, all_of}
use Rattle.paced_client.specs.Paced.{PacedOf}
use Rattle.paced_client.proofs.Pacing.{handed_out}
use Rattle.paced_client.proofs.paced_client.PacedClient.read.Goals as goal

pub returns-clause-facts : goal.returns-clause-facts
returns-clause-facts c =
    let rest = all_of c.self.inside.at c.as_slice.result.now in
    handed_out _ c.args.self.now c.min-count.result _ c.self.view_is (sym c.has_ended.ensures ∙ c.if-has_ended.false)
    (copied c.min-count.result (drop c.self.inside.at c.self.inside.input.items) c.copy_from_slice.new.self (drop c.min-count.result c.args.into.now) (c.copy_from_slice.ensures.after ∙ ap (take c.min-count.result) (rest ∙ ap (drop c.self.inside.at) c.as_slice.ensures)) (omega (arith, length-drop c.self.inside.at c.self.inside.input.items, c.allowed.ensures.within, ap (λ (x : PacedOf). length x.input) c.self.view_is, ap (λ (x : PacedOf). x.at) c.self.view_is)))
