-- Where a server stands that says its words and ends: it follows no session.
use Rattle.std.specs.Prelude.{ℕ, false, nat_lt, length, Some, List, [], ◌++◌}
use Rattle.session_values.specs.State.{StartKeyOf}
use Rattle.memory_ends.specs.Gone.{start_of, welcome_of}
use Rattle.link_model.specs.Stages.{Closed}
use Rattle.link_model.specs.Standing.{Standing}

abbrev pub saying : StartKeyOf → List ℕ → List ℕ → List ℕ → Standing
saying key words accepted given = record {
  follows = false;
  lives = nat_lt 0 (length words);
  server = record { catalogue = record { version = []; databases = []; tables = [] }; pid = 0; secret = 0; strikable = false };
  stage = Closed;
  inbox = [];
  outbox = [];
  accepted = start_of (Some key) ++ accepted;
  given = welcome_of (Some key) ++ given;
  struck = [];
  faults = 0;
  read_waits = 0;
  write_waits = 0;
}
