-- What a call of an end answers, and what it makes of where the end stands.
use Rattle.std.specs.Prelude.{◌≡◌, ℕ, ◌+◌, ◌<◌, ◌≤◌, true, false, List, [], ◌++◌, take}
use Rattle.link_model.specs.Standing.{Standing, ClientFacts}
use Rattle.server_end.specs.declared.Moved.{Moved}
use Rattle.server_end.specs.declared.Moved.TheVariants.{Count, NotNow, Ended, Fault}

-- the bytes that were moved, of those in the slice
abbrev pub moved : Moved → List ℕ → List ℕ
moved (Count n) bytes = take n bytes
moved NotNow bytes = []
moved Ended bytes = []
moved Fault bytes = []

-- a count is from 1 to the slice's length
abbrev pub IsWithin : Moved → ℕ → Type 0
IsWithin (Count n) len = (0 < n) × (n ≤ len)
IsWithin NotNow len = Unit {0}
IsWithin Ended len = Unit {0}
IsWithin Fault len = Unit {0}

abbrev pub waits_in : Moved → ℕ
waits_in (Count n) = 0
waits_in NotNow = 1
waits_in Ended = 0
waits_in Fault = 0

abbrev pub faults_in : Moved → ℕ
faults_in (Count n) = 0
faults_in NotNow = 0
faults_in Ended = 0
faults_in Fault = 1

-- ---- a server's end

-- the counts that a read, or a write, changes; after Ended it doesn't live
pub record CountsRead (old new : Standing) (m : Moved) : Type 0 where
  pub faults : new.faults ≡ old.faults + faults_in m
  pub read_waits : new.read_waits ≡ old.read_waits + waits_in m
  pub write_waits : new.write_waits ≡ old.write_waits
  pub ended : m ≡ Ended → new.lives ≡ false

pub record CountsWrite (old new : Standing) (m : Moved) : Type 0 where
  pub faults : new.faults ≡ old.faults + faults_in m
  pub read_waits : new.read_waits ≡ old.read_waits
  pub write_waits : new.write_waits ≡ old.write_waits + waits_in m
  pub ended : m ≡ Ended → new.lives ≡ false

-- ---- a client's end

-- what a read makes of it: `got` was taken from it, where it tells
pub record ClientReads (old new : ClientFacts) (got : List ℕ) (m : Moved) : Type 0 where
  pub tells : new.tells ≡ old.tells
  pub taken : old.tells ≡ true → new.taken ≡ old.taken ++ got
  pub given : old.tells ≡ true → new.given ≡ old.given
  pub faults : new.faults ≡ old.faults + faults_in m
  pub read_waits : new.read_waits ≡ old.read_waits + waits_in m
  pub write_waits : new.write_waits ≡ old.write_waits
  pub ended : m ≡ Ended → new.ended ≡ true
  pub stays_ended : old.ended ≡ true → new.ended ≡ true

-- what a write makes of it: `put` was given to it, where it tells
pub record ClientWrites (old new : ClientFacts) (put : List ℕ) (m : Moved) : Type 0 where
  pub tells : new.tells ≡ old.tells
  pub taken : old.tells ≡ true → new.taken ≡ old.taken
  pub given : old.tells ≡ true → new.given ≡ old.given ++ put
  pub faults : new.faults ≡ old.faults + faults_in m
  pub read_waits : new.read_waits ≡ old.read_waits
  pub write_waits : new.write_waits ≡ old.write_waits + waits_in m
  pub ended : m ≡ Ended → new.ended ≡ true
  pub stays_ended : old.ended ≡ true → new.ended ≡ true
