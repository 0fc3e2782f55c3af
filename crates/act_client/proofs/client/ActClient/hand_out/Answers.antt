use Rattle.std.proofs.Common.{◌∙◌, ap, take, drop, arith, length-drop, take-add, sym, false, [], ◌++◌, length}
use Rattle.memory_ends.specs.Clients.{ClientOf}
use Rattle.memory_ends.proofs.Ends.{handed_out, copied, all_of}
use Rattle.act_client.specs.Clients.{facts_of, taken}
use Rattle.act_client.proofs.client.ActClient.hand_out.Goals as goal

pub returns-clause-facts : goal.returns-clause-facts
returns-clause-facts c =
    let old : ClientOf = record { facts = facts_of c.args.self.now; unread = []; hung_up = false; cut = 0 } in
    handed_out old _ _ c.self.inside.script.now.bytes _ _ c.self.inside.at c.args.count _ _ (ap facts_of c.self.view_is) c.requires.living
    (copied c.args.count (drop c.self.inside.at c.self.inside.script.now.bytes) c.copy_from_slice.new.self (drop c.args.count c.args.into.now)
    (c.copy_from_slice.ensures.after ∙ ap (take c.args.count) (all_of c.self.inside.at c.input.result.now ∙ ap (drop c.self.inside.at) c.input.ensures)) (omega (arith, length-drop c.self.inside.at c.self.inside.script.now.bytes, ap (λ x. length x.input) c.self.view_is, ap (λ x. x.at) c.self.view_is, c.requires.there)))

pub returns-clause-taken : goal.returns-clause-taken
returns-clause-taken c =
    take-add c.self.inside.at c.args.count c.self.inside.script.now.bytes
    ∙ (ap (λ x. taken x ++ take c.args.count (drop c.self.inside.at c.self.inside.script.now.bytes)) c.self.view_is
    ∙ ap (λ l. taken c.args.self.now ++ l)
    (sym (copied c.args.count (drop c.self.inside.at c.self.inside.script.now.bytes) c.copy_from_slice.new.self (drop c.args.count c.args.into.now)
    (c.copy_from_slice.ensures.after ∙ ap (take c.args.count) (all_of c.self.inside.at c.input.result.now ∙ ap (drop c.self.inside.at) c.input.ensures)) (omega (arith, length-drop c.self.inside.at c.self.inside.script.now.bytes, ap (λ x. length x.input) c.self.view_is, ap (λ x. x.at) c.self.view_is, c.requires.there)))))
