use Rattle.std.proofs.Common.{rules}
use Rattle.session_values.specs.State.{started_over}
use Rattle.session_state.proofs.start.started_over.Goals as goal

pub returns : goal.returns
unfolding started_over
returns c = search rules
