use Rattle.std.proofs.Common.{ap, sym, ◌∙◌}
use Rattle.session_values.specs.State.{CatalogueOf}
use Rattle.link_model.specs.Stages.{started_by}
use Rattle.memory_ends.specs.Dialogues.{server_of}
use Rattle.memory_ends.proofs.Serving.{refused_so, turn_refused}
use Rattle.memory_ends.proofs.dialogue.Host.opened.Goals as goal

pub returns-in_ok-put_fatal-in-Err-Refused : goal.returns-in_ok-put_fatal-in-Err-Refused
returns-in_ok-put_fatal-in-Err-Refused c =
    let refused = rw c.in-Err-Refused.field-0-is at c.in-Err-Refused.ensures in
    turn_refused (server_of c.args.self.now) _ c.in-Err-Refused.cause _ c.put_authentication_ok.new.out.items c.put_fatal.new.out.items
    (ap (λ (x : CatalogueOf). started_by x c.args.start.now) (sym c.deref.ensures) ∙ refused_so _ _ refused) c.in_ok-put_authentication_ok.ensures.0 c.in_ok-put_fatal-in-Err-Refused.ensures.ok
