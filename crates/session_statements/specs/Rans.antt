-- What a run leaves, in the definitions' words.
use Rattle.std.specs.Prelude.{◌≡◌, List, [], ◌∷◌, Option, Some, None, Result, Ok, Err}
use Rattle.frame_view.specs.Frames.{FrameOf}
use Rattle.session_values.specs.declared.cause.Cause.{Cause}
use Rattle.session_values.specs.declared.stop.Stop.{Stop}
use Rattle.session_values.specs.declared.stop.Stop.TheVariants.{Refused, OutOfMemory}
use Rattle.session_values.specs.Errors.{already_in_transaction, no_transaction}
use Rattle.session_values.specs.State.{State}
use Rattle.session_values.specs.Runs as spec
use Rattle.session_statements.specs.declared.ran.Notice.{Notice}
use Rattle.session_statements.specs.declared.ran.Notice.TheVariants.{AlreadyInTransaction, NoTransaction}
use Rattle.session_statements.specs.declared.ran.Outcome.{Outcome}
use Rattle.session_statements.specs.declared.ran.Outcome.TheVariants.{Nothing, Done, Rows}
use Rattle.session_statements.specs.declared.ran.Ran.{Ran}

abbrev pub notice_of : Notice → FrameOf
notice_of AlreadyInTransaction = already_in_transaction
notice_of NoTransaction = no_transaction

abbrev pub notices_of : Option Notice → List FrameOf
notices_of None = []
notices_of (Some n) = notice_of n ∷ []

abbrev pub outcome_of : Outcome → spec.Outcome
outcome_of Nothing = spec.Nothing
outcome_of (Done tag) = spec.Done tag.now
outcome_of (Rows rows) = spec.Rows rows

-- with the state after the run
abbrev pub ran_of : State → Ran → spec.Ran
ran_of s r = record { after = s; notices = notices_of r.notice; outcome = outcome_of r.outcome }

-- the definition's run, or its cause with the state as it was; or an allocation failed
abbrev pub Runs : Result Ran Stop → State → State → Result spec.Ran Cause → Type 0
Runs (Ok r) old new wanted = wanted ≡ Ok (ran_of new r)
Runs (Err (Refused cause)) old new wanted = (wanted ≡ Err cause) × (new ≡ old)
Runs (Err OutOfMemory) old new wanted = Unit {0}
