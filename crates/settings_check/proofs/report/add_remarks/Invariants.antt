use Rattle.std.proofs.Common.{◌≡◌, ◌++◌, drop}
use Rattle.std.specs.Prelude.{map}
use Rattle.log_lines.specs.Shown.{shown_text}
use Rattle.settings_check.proofs.report.add_remarks.Given as goal

abbrev pub invariant-loop-words : goal.invariant-loop-words
invariant-loop-words l =
    l.lines.items ++ map (λ words. shown_text l.file ++ l.mark ++ words) (drop l.words-index l.remarks)
    ≡ l.fn.lines.items ++ map (λ words. shown_text l.file ++ l.mark ++ words) l.remarks
