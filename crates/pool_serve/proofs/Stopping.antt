-- A login that goes on no further.
use Rattle.std.proofs.Common.{◌≡◌, refl}
use Rattle.login_run.specs.declared.run.LoginTurn.{LoginTurn}
use Rattle.login_run.specs.declared.run.LoginTurn.TheVariants as turn
use Rattle.login_run.specs.Runs.{RunView, HasTurned}
use Rattle.pool_serve.specs.Serving.{HasStopped}

pub stopped_by : (old new : RunView) (t : LoginTurn) → HasTurned old new t → (t ≡ turn.Again → ⊥) → (t ≡ turn.Wait → ⊥) → HasStopped new t
stopped_by old new turn.Again h a w = absurd (a refl)
stopped_by old new turn.Wait h a w = absurd (w refl)
stopped_by old new turn.Arrived h a w = h
stopped_by old new turn.Passed h a w = h.1
stopped_by old new turn.Console h a w = h
stopped_by old new (turn.Cancel key) h a w = h
stopped_by old new turn.Over h a w = tt
