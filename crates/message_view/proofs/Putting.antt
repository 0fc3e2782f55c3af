-- What a writer leaves where it succeeds.
use Rattle.std.proofs.Common.{◌≡◌, ◌++◌, Result, Ok, Err}
use Rattle.std.specs.Prelude.{OnOk}
use Rattle.bytes.specs.Filled.{Filled}
use Rattle.frame_view.specs.Frames.{FrameOf, spelling}
use Rattle.message_view.specs.Parts.{Puts}

pub put_items : {E : Type 0} (r : Result (Unit {0}) E) (old new : Filled) (f : FrameOf) → Puts r old new f → OnOk r (new.items ≡ old.items ++ spelling f)
put_items (Ok u) old new f h = h.0
put_items (Err e) old new f h = tt
