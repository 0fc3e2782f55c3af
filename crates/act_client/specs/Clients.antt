-- A client in memory that sends by its script, as its callers see it.
use Rattle.std.specs.Prelude.{◌≡◌, ℕ, Bool, true, false, ◌||◌, List, [], ◌++◌, take}
use Rattle.link_model.specs.Standing.{ClientFacts}
use Rattle.memory_ends.specs.Clients.{given_with, is_broken}

pub record ActClientOf : Type 0 where
  -- all that it sends, and how much of it was taken
  pub input : List ℕ
  pub at : ℕ
  pub given : List ℕ
  pub hung_up : Bool
  pub faults : ℕ
  pub waits : ℕ

abbrev pub new_client : List ℕ → ActClientOf
new_client input = record { input = input; at = 0; given = []; hung_up = false; faults = 0; waits = 0 }

abbrev pub taken : ActClientOf → List ℕ
taken c = take c.at c.input

abbrev pub given_more : ActClientOf → List ℕ → ActClientOf
given_more c bytes = record c { given = c.given ++ bytes }

abbrev pub has_ended : ActClientOf → Bool
has_ended c = is_broken c.faults c.waits || c.hung_up

abbrev pub facts_of : ActClientOf → ClientFacts
facts_of c = record {
  tells = true;
  ended = has_ended c;
  taken = taken c;
  given = given_with c.input c.given;
  faults = c.faults;
  read_waits = c.waits;
  write_waits = 0;
}

-- it has the same input, and the other list of bytes is as it was
abbrev pub SameGiven : ActClientOf → ActClientOf → Type 0
SameGiven old new = (new.input ≡ old.input) × (new.given ≡ old.given)

abbrev pub SameTaken : ActClientOf → ActClientOf → Type 0
SameTaken old new = (new.input ≡ old.input) × (new.at ≡ old.at)
