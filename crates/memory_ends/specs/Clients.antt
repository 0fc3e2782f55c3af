-- A client in memory, as its callers see it.
use Rattle.std.specs.Prelude.{◌≡◌, ℕ, ◌-◌, ◌^◌, ◌≤◌, Bool, true, false, ◌&&◌, ◌||◌, ◌==◌, nat_lt, List, [], ◌∷◌, ◌++◌, length, take, drop, if◌then◌else◌}
use Rattle.link_model.specs.Standing.{ClientFacts}
use Rattle.server_end.specs.declared.Moved.{Moved}
use Rattle.server_end.specs.declared.Moved.TheVariants.{Count, NotNow, Ended, Fault}

pub record ClientOf : Type 0 where
  pub facts : ClientFacts
  -- what may still be read of it
  pub unread : List ℕ
  pub hung_up : Bool
  -- a call moves so many bytes at most
  pub cut : ℕ

-- What a client in memory whose facts tell whose it is counts as given, before all that it was: its whole input with its length.
abbrev pub given_with : List ℕ → List ℕ → List ℕ
given_with input given = length input ∷ (input ++ given)

abbrev pub is_broken : ℕ → ℕ → Bool
is_broken faults waits = nat_lt 0 faults || waits == 2 ^ 64 - 1

-- So many bytes of the input were taken. It has ended once it hung up and all was, after a fault, and at the last count.
abbrev pub client_view : List ℕ → ℕ → List ℕ → ℕ → Bool → ℕ → ℕ → ClientOf
client_view input at given cut hung_up faults waits = record {
  facts = record {
    tells = true;
    ended = is_broken faults waits || (hung_up && at == length input);
    taken = take at input;
    given = given;
    faults = faults;
    read_waits = waits;
    write_waits = 0;
  };
  unread = drop at input;
  hung_up = hung_up;
  cut = cut;
}

-- a client with this input, of which nothing was taken
abbrev pub new_client : List ℕ → ℕ → ClientOf
new_client input cut = client_view input 0 [] cut false 0 0

-- the same client with other facts
abbrev pub with_facts : ClientOf → ClientFacts → ClientOf
with_facts c facts = record c { facts = facts }

-- What a read comes to, `got` being the bytes that it moved: at most `cut` bytes, the next of the input; to nothing only where all
-- was read and more may be fed; and to the end only where it has ended. It takes no memory.
abbrev pub ReadsClient : ClientOf → ClientOf → List ℕ → Moved → Type 0
ReadsClient old new got (Count n) = (n ≤ old.cut) × (got ≡ take n old.unread) × (new ≡ record old { facts = new.facts; unread = drop n old.unread })
ReadsClient old new got NotNow = (old.unread ≡ []) × (old.hung_up ≡ false) × (new ≡ with_facts old new.facts)
ReadsClient old new got Ended = (old.facts.ended ≡ true) × (new ≡ old)
ReadsClient old new got Fault = ⊥

-- What a write comes to: a client that hung up still takes what it is given.
abbrev pub WritesClient : ClientOf → ClientOf → Moved → Type 0
WritesClient old new (Count n) = (n ≤ old.cut) × (new ≡ with_facts old new.facts)
WritesClient old new NotNow = ⊥
WritesClient old new Ended = (is_broken old.facts.faults old.facts.read_waits ≡ true) × (new ≡ old)
WritesClient old new Fault = (new.facts.ended ≡ true) × (new ≡ with_facts old new.facts)

-- the client after more of its input came, which one that hung up doesn't have
abbrev pub fed : ClientOf → List ℕ → ClientOf
fed c more = record c { unread = if c.hung_up then c.unread else c.unread ++ more }

-- the client once it hung up: it has ended where all of its input was taken
abbrev pub after_hang_up : ClientOf → ClientOf
after_hang_up c = record c { hung_up = true; facts = record c.facts { ended = c.facts.ended || length c.unread == 0 } }
