-- How far a portal has come, as the state says it.
use Rattle.session_state.specs.declared.portal.Progress.{Progress}
use Rattle.session_state.specs.declared.portal.Progress.TheVariants as code
use Rattle.session_values.specs.State.{ProgressOf, NotRun, Remaining, Finished}

abbrev pub progress_of : Progress → ProgressOf
progress_of code.NotRun = NotRun
progress_of (code.Remaining rows) = Remaining rows
progress_of code.Finished = Finished
