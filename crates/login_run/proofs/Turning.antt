-- A turn is a write or a read.
use Rattle.std.proofs.Common.{◌≡◌, inr, sym, ◌∙◌, arith}
use Rattle.login_run.specs.declared.run.LoginTurn.{LoginTurn}
use Rattle.login_run.specs.declared.run.LoginTurn.TheVariants as turn
use Rattle.login_run.specs.Runs.{RunView, Talking, HasRead, HasTurned, HasWritten}

pub turned_write : (old new : RunView) (t : LoginTurn) → HasWritten old new t → HasTurned old new t
turned_write old new turn.Again h = h.0
turned_write old new turn.Wait h = (omega (arith, h.0, h.1), h.2)
turned_write old new turn.Over h = inr (h.0, inr h.1)
turned_write old new turn.Arrived h = absurd h
turned_write old new turn.Passed h = absurd h
turned_write old new turn.Console h = absurd h
turned_write old new (turn.Cancel key) h = absurd h

pub turned_read : (old new : RunView) (t : LoginTurn) → old.phase ≡ Talking → HasRead old new t → HasTurned old new t
turned_read old new turn.Again e h = h
turned_read old new turn.Wait e h = (omega (arith, h.0, h.1), h.2 ∙ sym e)
turned_read old new turn.Over e h = inr (h.0, inr h.1)
turned_read old new turn.Arrived e h = absurd h
turned_read old new turn.Passed e h = absurd h
turned_read old new turn.Console e h = absurd h
turned_read old new (turn.Cancel key) e h = absurd h
