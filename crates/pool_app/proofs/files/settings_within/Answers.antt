use Rattle.std.proofs.Common.{Result, Ok, subst}
use Rattle.ini_config.specs.declared.option_values.Settings.{Settings}
use Rattle.text_lines.specs.Lines.{lines}
use Rattle.pool_app.specs.Files as spec
use Rattle.pool_app.specs.declared.fault.AppError.{AppError}
use Rattle.pool_app.proofs.files.settings_within.Goals as goal

pub returns-clause-bounds : goal.returns-clause-bounds
returns-clause-bounds c =
    let said : spec.IsSettingsOf (lines c.args.text.now) (Ok c.in_ok-settings.settings) = subst (λ (r : Result Settings AppError). spec.IsSettingsOf (lines c.args.text.now) r) c.in_ok-settings.was c.settings_of.ensures in
    c.read_settings_are_within_bounds.ensures (lines c.args.text.now) c.in_ok-settings.settings said
