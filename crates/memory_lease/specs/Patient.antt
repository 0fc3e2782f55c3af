-- A client in memory that waits for its answers, as its callers see it.
use Rattle.std.specs.Prelude.{◌≡◌, ℕ, Bool, true, false, ◌||◌, nat_lt, List, [], take}
use Rattle.link_model.specs.Standing.{ClientFacts}
use Rattle.memory_ends.specs.Clients.{given_with}

pub record PatientOf : Type 0 where
  pub facts : ClientFacts
  pub input : List ℕ
  pub at : ℕ
  pub border : ℕ

abbrev pub patient_view : List ℕ → ℕ → ℕ → List ℕ → Bool → ℕ → ℕ → PatientOf
patient_view input at border given hung_up faults waits = record {
  facts = record {
    tells = true;
    ended = nat_lt 0 faults || hung_up;
    taken = take at input;
    given = given_with input given;
    faults = faults;
    read_waits = waits;
    write_waits = 0;
  };
  input = input;
  at = at;
  border = border;
}

-- a client with this input, of which nothing was taken
abbrev pub new_patient : List ℕ → PatientOf
new_patient input = patient_view input 0 0 [] false 0 0

-- what was given to it is this, and what was taken from it begins its input
pub record IsGiven (c : PatientOf) (out : List ℕ) : Type 0 where
  pub taken : c.facts.taken ≡ take c.at c.input
  pub given : c.facts.given ≡ given_with c.input out
