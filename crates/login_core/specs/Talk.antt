-- A dialogue that reads one packet after another, reacts to each, and ends.
use Rattle.std.specs.Prelude.{ℕ, zero, suc, List, [], ◌++◌}

-- what stands at the front of the bytes: a whole packet and the rest, less than one (with the number of
-- bytes that are known to be missing), or none, whatever comes
pub data Cut (P R : Type 0) : Type 0 where
  Whole : P → (rest : List ℕ) → Cut P R
  Need : (missing : ℕ) → Cut P R
  Bad : R → Cut P R

-- what is said to a packet, and then: the dialogue goes on in another stage, leads somewhere, or stops
pub data Reaction (S K R : Type 0) : Type 0 where
  Goes : (pieces : List (List ℕ)) → S → Reaction S K R
  Passes : (pieces : List (List ℕ)) → K → Reaction S K R
  Stops : (pieces : List (List ℕ)) → R → Reaction S K R

pub data End (K R : Type 0) : Type 0 where
  Unfinished : End K R
  -- with the bytes that no packet took
  Passed : K → (left : List ℕ) → End K R
  Stopped : R → End K R

pub record Said (K R : Type 0) : Type 0 where
  pub pieces : List (List ℕ)
  pub ended : End K R

abbrev pub says : {K R : Type 0} → List (List ℕ) → Said K R → Said K R
says pieces said = record { pieces = pieces ++ said.pieces; ended = said.ended }

-- what is said from a reaction on, where `next` says what comes from a stage
abbrev pub follow : {S K R : Type 0} → List ℕ → (S → Said K R) → Reaction S K R → Said K R
follow rest next (Goes pieces s) = says pieces (next s)
follow rest next (Passes pieces key) = record { pieces = pieces; ended = Passed key rest }
follow rest next (Stops pieces reason) = record { pieces = pieces; ended = Stopped reason }

abbrev pub on_cut : {P S K R : Type 0} → (P → Reaction S K R) → (S → List ℕ → Said K R) → Cut P R → Said K R
on_cut react next (Whole p rest) = follow rest (λ s. next s rest) (react p)
on_cut react next (Need missing) = record { pieces = []; ended = Unfinished }
on_cut react next (Bad reason) = record { pieces = []; ended = Stopped reason }

-- of at most so many packets
abbrev pub talk : {P S K R : Type 0} → (S → List ℕ → Cut P R) → (S → P → Reaction S K R) → (packets : ℕ) → S → List ℕ → Said K R
talk packet react zero s bytes = record { pieces = []; ended = Unfinished }
talk packet react (suc n) s bytes = on_cut (react s) (talk packet react n) (packet s bytes)
