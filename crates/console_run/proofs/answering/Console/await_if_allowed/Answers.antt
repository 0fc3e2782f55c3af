use Rattle.std.proofs.Common.{◌≡◌, ◌∙◌, false, refl, rules, sym}
use Rattle.console_run.proofs.Replying.{not_told}
use Rattle.console_run.proofs.answering.Console.await_if_allowed.Goals as goal

pub returns-then-not-may_act : goal.returns-then-not-may_act
returns-then-not-may_act g c =
    let off : c.may_act.result ≡ false = search rules in
    not_told _ _ _ _ _ _ (sym c.may_act.ensures ∙ off) c.not_allowed.ensures refl
