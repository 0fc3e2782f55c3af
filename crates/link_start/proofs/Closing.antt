-- A Terminate that is offered.
use Rattle.std.proofs.Common.{◌≡◌, inl, inr, ℕ, zero, suc, ◌<◌, [], take, drop, refl, arith, take-append-drop}
use Rattle.frame_view.specs.Frames.{spelling}
use Rattle.link_model.specs.Standing.{Standing, Moves}
use Rattle.link_run.specs.declared.Moved.{Moved}
use Rattle.link_run.specs.declared.Moved.TheVariants.{Count, NotNow, Ended, Fault}
use Rattle.link_run.specs.Moves.{CountsWrite, IsWithin, moved}
use Rattle.link_start.specs.Closes.{IsOffered, terminate}

some_taken : {A : Type 0} (n : ℕ) → 0 < n → take n (spelling terminate) ≡ [] → A
some_taken zero h e = absurd (omega (arith, h))
some_taken (suc n) h e = absurd cc

pub offered : (old new : Standing) (m : Moved) → Moves old (moved m (spelling terminate)) new [] → CountsWrite old new m → IsWithin m 5 → IsOffered old new
offered old new (Count n) y c w = record { put = take n (spelling terminate); rest = drop n (spelling terminate); front = take-append-drop n (spelling terminate); moves = y; tried = λ e. some_taken n w.0 e }
offered old new NotNow y c w = record { put = []; rest = spelling terminate; front = refl; moves = y; tried = λ _. inl (omega (arith, c.write_waits)) }
offered old new Ended y c w = record { put = []; rest = spelling terminate; front = refl; moves = y; tried = λ _. inr (inr (c.ended refl)) }
offered old new Fault y c w = record { put = []; rest = spelling terminate; front = refl; moves = y; tried = λ _. inr (inl (omega (arith, c.faults))) }
