use Rattle.std.proofs.Common.{sym, ◌∙◌, length, arith}
use Rattle.std.proofs.lemmas.List.{get_or_read, get_or_past}
use Rattle.paced_client.proofs.Pacing.{allows}
use Rattle.paced_client.proofs.paced_client.PacedClient.allowed.Goals as goal

pub returns-then-self-len-clause-within : goal.returns-then-self-len-clause-within
returns-then-self-len-clause-within c =
    (allows _ c.args.self.now c.self.inside.pauses.items c.self.inside.heard c.index.result.now c.self.invariant c.self.view_is (get_or_read c.self.inside.pauses.items c.self.inside.heard.readies c.index.result.now (omega arith) c.index.ensures (length c.self.inside.input.items))).within

pub returns-clause-allowed : goal.returns-clause-allowed
returns-clause-allowed c =
    (allows _ c.args.self.now c.self.inside.pauses.items c.self.inside.heard c.len-2.result c.self.invariant c.self.view_is (c.len-2.ensures.value ∙ sym (get_or_past c.self.inside.pauses.items c.self.inside.heard.readies (length c.self.inside.input.items) (omega arith)))).allowed

pub returns-clause-taken : goal.returns-clause-taken
returns-clause-taken c =
    (allows _ c.args.self.now c.self.inside.pauses.items c.self.inside.heard c.len-2.result c.self.invariant c.self.view_is (c.len-2.ensures.value ∙ sym (get_or_past c.self.inside.pauses.items c.self.inside.heard.readies (length c.self.inside.input.items) (omega arith)))).taken
