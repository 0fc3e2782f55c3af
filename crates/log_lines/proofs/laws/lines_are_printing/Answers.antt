use Rattle.log_lines.proofs.Printing.{printing}
use Rattle.log_lines.proofs.laws.lines_are_printing.Goals as goal

pub returns : goal.returns
returns c = printing
