use Rattle.std.proofs.Common.{◌≡◌, ◌∙◌, ap, sym, subst}
use Rattle.std.specs.Prelude.{option_map}
use Rattle.std.specs.Arc.{arc_value}
use Rattle.session_values.specs.State.{StartKeyOf}
use Rattle.login_core.specs.Logins.{named_key, rows_under}
use Rattle.login_core.proofs.Revealing.{named_reveals}
use Rattle.login_core.proofs.dialogue.Rules.link.Goals as goal

pub returns-in-Some-clause-revealed : goal.returns-in-Some-clause-revealed
returns-in-Some-clause-revealed c =
    let named = subst (λ (k : StartKeyOf). option_map arc_value c.in_ok-link.field-0 ≡ named_key (rows_under c.args.self.now k.row k.user).database k) c.deref.ensures c.in_ok-link.ensures.key in
    named_reveals (arc_value c.args.self.now.settings) (arc_value c.args.self.now.users) (arc_value c.args.key) (arc_value c.in-Some.link) (ap (option_map arc_value) (sym c.in-Some.is) ∙ named)
