use Rattle.ini_config.proofs.Bounds as bounds
use Rattle.ini_config.proofs.laws.read_settings_are_within_bounds.Goals as goal

pub returns : goal.returns
returns c = bounds.read_settings_are_within_bounds
