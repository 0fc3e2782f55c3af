-- What the code leaves, in the definitions' words.
use Rattle.std.specs.Prelude.{◌≡◌, ℕ, List, ◌++◌, Result, Ok, Err}
use Rattle.std.specs.List.{flat_map}
use Rattle.frame_view.specs.Frames.{FrameOf, spelling}
use Rattle.frame_view.specs.declared.Frame.{Frame}
use Rattle.session_values.specs.declared.cause.Cause.{Cause}
use Rattle.session_values.specs.declared.stop.Stop.{Stop}
use Rattle.session_values.specs.declared.stop.Stop.TheVariants.{Refused, OutOfMemory}
use Rattle.session_values.specs.State.{State, Answer}

-- a frame without where it lies in memory
abbrev pub frame_of : Frame → FrameOf
frame_of f = record { kind = f.kind; body = f.body.now }

-- the new state is the answer's, and its replies were written at the end
pub record Gave (new : State) (before after : List ℕ) (a : Answer) : Type 0 where
  pub next : new ≡ a.next
  pub written : after ≡ before ++ flat_map spelling a.replies

-- what a call that may be refused left: the answer's state and replies, or, with the cause, all as it was
abbrev pub Gives : Result (Unit {0}) Cause → State → State → List ℕ → List ℕ → Result Answer Cause → Type 0
Gives (Ok u) old new before after (Ok a) = (new ≡ a.next) × (after ≡ before ++ flat_map spelling a.replies)
Gives (Err c) old new before after (Err d) = (d ≡ c) × (new ≡ old) × (after ≡ before)
Gives (Ok u) old new before after (Err d) = ⊥
Gives (Err c) old new before after (Ok a) = ⊥

-- the definition's result, unless an allocation failed
abbrev pub Finds : {A : Type 0} → Result A Stop → Result A Cause → Type 0
Finds (Ok x) wanted = wanted ≡ Ok x
Finds (Err (Refused cause)) wanted = wanted ≡ Err cause
Finds (Err OutOfMemory) wanted = Unit {0}

-- the answer was given, or all is as it was and this is the definition's cause; or an allocation failed
abbrev pub Performs : Result (Unit {0}) Stop → State → State → List ℕ → List ℕ → Result Answer Cause → Type 0
Performs (Ok u) old new before after wanted = Gives (Ok u) old new before after wanted
Performs (Err (Refused cause)) old new before after wanted = Gives (Err cause) old new before after wanted
Performs (Err OutOfMemory) old new before after wanted = Unit {0}
