use Rattle.std.proofs.Common.{◌≡◌, map, take}
use Rattle.console_core.specs.Views.{setting_view}
use Rattle.console_core.proofs.config.rows.Given as goal

abbrev pub invariant-loop-setting : goal.invariant-loop-setting
invariant-loop-setting l = l.rows.items ≡ map setting_view (take l.setting-index l.settings)
