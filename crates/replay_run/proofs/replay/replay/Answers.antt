use Rattle.std.proofs.Common.{◌≡◌, ◌⊎◌, inl, inr, refl, sym, subst}
use Rattle.pool_app.specs.declared.fault.AppError.{AppError}
use Rattle.pool_app.specs.declared.fault.AppError.TheVariants.{Memory, Stdin}
use Rattle.replay_run.specs.Replay.{IsLeft}
use Rattle.replay_run.proofs.replay.replay.Goals as goal

untouched : {A : Type 0} (x : A) (fault : AppError) → (fault ≡ Stdin) ⊎ (fault ≡ Memory) → IsLeft x x fault
untouched x fault (inl is) = subst (IsLeft x x) (sym is) refl
untouched x fault (inr is) = subst (IsLeft x x) (sym is) refl

pub returns-in-Err-clause-left : goal.returns-in-Err-clause-left
returns-in-Err-clause-left g c = untouched _ c.unread.result c.unread.ensures
