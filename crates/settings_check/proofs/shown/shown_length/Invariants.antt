use Rattle.std.proofs.Common.{◌≡◌, ◌+◌, drop}
use Rattle.settings_check.specs.Shown.{shown_length}
use Rattle.settings_check.proofs.shown.shown_length.Given as goal

abbrev pub invariant-loop-at : goal.invariant-loop-at
invariant-loop-at l = shown_length (drop l.at l.text) + l.at ≡ shown_length l.text
