use Rattle.std.proofs.Common.{rules}
use Rattle.session_values.specs.State.{fresh}
use Rattle.session_state.proofs.session.SessionState.start.Goals as goal

pub returns-then-not-has_text : goal.returns-then-not-has_text
unfolding fresh
returns-then-not-has_text c = search rules

pub returns : goal.returns
unfolding fresh
returns c = search rules
