use Rattle.std.proofs.Common.{◌≡◌, ◌∙◌, sym, ap, subst, Ok, Err}
use Rattle.std.specs.Arc.{arc_value}
use Rattle.ini_config.specs.declared.option_values.Settings.{Settings}
use Rattle.message_view.specs.Left.{pairs_left}
use Rattle.param_track.specs.StartKeys.{Answers, start_key_under}
use Rattle.login_core.proofs.Starting.{key_made, no_room, refused}
use Rattle.login_core.proofs.dialogue.Rules.begin.Goals as goal

pub returns-in-Ok-new : goal.returns-in-Ok-new
returns-in-Ok-new c =
    let made = subst (λ (s : Settings). start_key_under s (pairs_left c.in-Ok.start.pairs) ≡ Ok c.in-Ok-start_key.key) c.deref.ensures c.in-Ok-start_key.ensures in
    key_made (arc_value c.args.self.now.settings) (arc_value c.args.self.now.users) _ _ _ c.in-Ok.ensures.parts made ∙ ap Ok (sym c.in-Ok-new.ensures.ok)

pub returns-in-Ok-start_key : goal.returns-in-Ok-start_key
returns-in-Ok-start_key c =
    let made = subst (λ (s : Settings). start_key_under s (pairs_left c.in-Ok.start.pairs) ≡ Ok c.in-Ok-start_key.key) c.deref.ensures c.in-Ok-start_key.ensures in
    no_room (arc_value c.args.self.now.settings) (arc_value c.args.self.now.users) _ _ _ c.in-Ok.ensures.parts made

pub returns : goal.returns
returns c =
    let told = subst (λ (s : Settings). Answers (Err c.in-Err-start_key.fault) (start_key_under s (pairs_left c.in-Ok.start.pairs))) c.deref.ensures c.in-Err-start_key.ensures in
    refused (arc_value c.args.self.now.settings) (arc_value c.args.self.now.users) _ _ _ _ c.in-Ok.ensures.parts told c.refusal_of_start.ensures
