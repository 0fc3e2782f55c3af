-- Where the ends of a lease stand, and what a move of bytes makes of a server's end.
use Rattle.std.specs.Prelude.{◌≡◌, ℕ, Bool, true, false, List, [], ◌++◌, length, drop}
use Rattle.std.specs.List.{flat_map}
use Rattle.frame_view.specs.Frames.{spelling}
use Rattle.session_run_laws.specs.Step.{has_mark}
use Rattle.link_model.specs.Stages.{Server, Stage, Packet, packets_bytes, packets_marks, after, answers, MayTakeAll}

-- what the end of a link tells
pub record Standing : Type 0 where
  -- it answers as the stand-in server does
  pub follows : Bool
  pub lives : Bool
  pub server : Server
  pub stage : Stage
  -- the bytes that it has still to take, and those that it has still to give
  pub inbox : List ℕ
  pub outbox : List ℕ
  -- all that it ever accepted, and all that it ever gave
  pub accepted : List ℕ
  pub given : List ℕ
  -- for each frame that it took, whether a cancel struck it
  pub struck : List Bool
  -- how many calls came to a fault, and how many reads and writes to nothing at that time
  pub faults : ℕ
  pub read_waits : ℕ
  pub write_waits : ℕ

-- what a client's end tells: whether it tells its bytes, and those taken from it and given to it
pub record ClientFacts : Type 0 where
  pub tells : Bool
  pub ended : Bool
  pub taken : List ℕ
  pub given : List ℕ
  pub faults : ℕ
  pub read_waits : ℕ
  pub write_waits : ℕ

-- A living server took whole packets from its inbox, of whose frames cancels struck those that are marked, added their replies
-- to its outbox, and gave `got`.
pub record Served (old : Standing) (put : List ℕ) (marks : List Bool) (new : Standing) (got : List ℕ) : Type 0 where
  pub taken : List Packet
  pub lawful : MayTakeAll old.server old.stage taken
  pub marks_are : packets_marks taken ≡ marks
  pub inbox : old.inbox ++ put ≡ packets_bytes taken ++ new.inbox
  pub stage : new.stage ≡ after old.server old.stage taken
  pub outbox : old.outbox ++ flat_map spelling (answers old.server old.stage taken) ≡ got ++ new.outbox

-- It took some, and gave a beginning of what it then had: a death cuts the rest.
pub record Passed (old : Standing) (put : List ℕ) (marks : List Bool) (got : List ℕ) : Type 0 where
  pub taken : List Packet
  pub lawful : MayTakeAll old.server old.stage taken
  pub marks_are : packets_marks taken ≡ marks
  pub left : List ℕ
  pub lost : List ℕ
  pub inbox : old.inbox ++ put ≡ packets_bytes taken ++ left
  pub outbox : old.outbox ++ flat_map spelling (answers old.server old.stage taken) ≡ got ++ lost

-- which of the frames that an end took since it stood there are struck
abbrev pub marks_since : Standing → Standing → List Bool
marks_since began now = drop (length began.struck) now.struck

-- a cancel struck one of them
abbrev pub was_struck : Standing → Standing → Bool
was_struck began now = has_mark (marks_since began now)

-- What any move does: `put` goes in, `got` comes out, and each strike is noted. Two moves, one after the other, are one.
pub record Moves (old : Standing) (put : List ℕ) (new : Standing) (got : List ℕ) : Type 0 where
  pub follows : new.follows ≡ old.follows
  pub server : new.server ≡ old.server
  pub dead : old.lives ≡ false → new.lives ≡ false
  pub silent : old.lives ≡ false → (put ≡ []) × (got ≡ [])
  pub accepted : new.accepted ≡ old.accepted ++ put
  pub given : new.given ≡ old.given ++ got
  pub noted : new.struck ≡ old.struck ++ marks_since old new
  pub unstruck : old.lives ≡ false → new.struck ≡ old.struck
  pub served : old.follows ≡ true → new.lives ≡ true → Served old put (marks_since old new) new got
  pub passed : old.follows ≡ true → old.lives ≡ true → Passed old put (marks_since old new) got

abbrev pub MovesJoin : Type 0
MovesJoin = (a b c : Standing) (p q g h : List ℕ) → Moves a p b g → Moves b q c h → Moves a (p ++ q) c (g ++ h)

-- What no cancel reaches is never struck.
abbrev pub SparedAreUnstruck : Type 0
SparedAreUnstruck = (old new : Standing) (put got : List ℕ) → Moves old put new got → old.follows ≡ true → old.server.strikable ≡ false → was_struck old new ≡ false
