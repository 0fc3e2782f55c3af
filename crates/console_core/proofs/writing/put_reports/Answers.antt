use Rattle.console_core.proofs.Parts.{three_parts}
use Rattle.console_core.proofs.writing.put_reports.Goals as goal

pub returns : goal.returns
returns c = three_parts _ _ _ _ _ _ _ c.in_ok-put_parameter_status.ensures.0 c.in_ok-put_parameter_status-2.ensures.0 c.in_ok-put_parameter_status-3.ensures.0
