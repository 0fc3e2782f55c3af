-- A client in memory that waits for its answers, as its callers see it.
use Rattle.std.specs.Prelude.{◌≡◌, ℕ, ◌+◌, ◌≤◌, Bool, true, false, ◌&&◌, ◌||◌, ◌==◌, List, [], ◌++◌, length, take}
use Rattle.link_model.specs.Standing.{ClientFacts}
use Rattle.server_end.specs.declared.Moved.{Moved}
use Rattle.server_end.specs.declared.Moved.TheVariants.{Count, NotNow, Ended, Fault}
use Rattle.memory_ends.specs.Clients.{is_broken}
use Rattle.paced_client.specs.Pauses.{allowed_to_hand_out, all_answered}

pub record PacedOf : Type 0 where
  pub input : List ℕ
  -- so many bytes of the input were taken
  pub at : ℕ
  pub given : List ℕ
  -- a call moves so many bytes at most
  pub cut : ℕ
  pub faults : ℕ
  pub waits : ℕ

-- It has ended once all was taken and answered, after a fault, and at the last count.
abbrev pub has_ended : PacedOf → Bool
has_ended p = is_broken p.faults p.waits || (all_answered p.input p.given && p.at == length p.input)

abbrev pub facts_of : PacedOf → ClientFacts
facts_of p = record {
  tells = true;
  ended = has_ended p;
  taken = take p.at p.input;
  given = p.given;
  faults = p.faults;
  read_waits = p.waits;
  write_waits = 0;
}

-- a client with this input, of which nothing was taken
abbrev pub new_client : List ℕ → ℕ → PacedOf
new_client input cut = record { input = input; at = 0; given = []; cut = cut; faults = 0; waits = 0 }

-- What a read comes to: never past what may be handed out, to nothing only where all of that was taken, and to the end only
-- where it has ended. It takes no memory.
abbrev pub ReadsPaced : PacedOf → PacedOf → Moved → Type 0
ReadsPaced old new (Count n) = (n ≤ old.cut) × (old.at + n ≤ allowed_to_hand_out old.input old.given) × (new ≡ record old { at = old.at + n })
ReadsPaced old new NotNow = (old.at ≡ allowed_to_hand_out old.input old.given) × (has_ended old ≡ false) × (new ≡ record old { waits = old.waits + 1 })
ReadsPaced old new Ended = (has_ended old ≡ true) × (new ≡ old)
ReadsPaced old new Fault = ⊥

-- What a write of these bytes comes to, never to nothing: a client takes what it is given, also once all was answered.
abbrev pub WritesPaced : PacedOf → List ℕ → PacedOf → Moved → Type 0
WritesPaced old from new (Count n) = (n ≤ old.cut) × (new ≡ record old { given = old.given ++ take n from })
WritesPaced old from new NotNow = ⊥
WritesPaced old from new Ended = (is_broken old.faults old.waits ≡ true) × (new ≡ old)
WritesPaced old from new Fault = new ≡ record old { faults = old.faults + 1 }
