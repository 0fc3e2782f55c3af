use Rattle.text_lines.specs.Lines.{lines}
use Rattle.play_tests.proofs.files.settings_of.Goals as goal

pub returns-in-Ok : goal.returns-in-Ok
returns-in-Ok c = c.read_settings_are_within_bounds.ensures (lines c.args.text.now) c.in-Ok.settings c.in-Ok.ensures
