-- Where a server stands that has gone: it follows no session, and tells whether one was started on it before.
use Rattle.std.specs.Prelude.{ℕ, false, Option, Some, None, List, [], ◌∷◌}
use Rattle.std.specs.List.{flat_map}
use Rattle.frame_view.specs.Frames.{FrameOf, spelling}
use Rattle.message_view.specs.declared.kinds.TheConstants.{IDLE}
use Rattle.message_view.specs.Messages.{ready_for_query}
use Rattle.session_values.specs.State.{StartKeyOf}
use Rattle.link_model.specs.Dialogues.{start_packets}
use Rattle.link_model.specs.Stages.{Closed, let_in, packets_bytes}
use Rattle.link_model.specs.Standing.{Standing}

-- all that was sent to start a session of the key, where nothing was asked
abbrev pub start_of : Option StartKeyOf → List ℕ
start_of (Some key) = packets_bytes (start_packets key [])
start_of None = []

-- AuthenticationOk and ReadyForQuery: the shortest answer to such a start
abbrev pub shortest_welcome : List FrameOf
shortest_welcome = let_in ∷ ready_for_query IDLE ∷ []

abbrev pub welcome_of : Option StartKeyOf → List ℕ
welcome_of (Some key) = flat_map spelling shortest_welcome
welcome_of None = []

-- where a session of this key was started on it, or none
abbrev pub gone : Option StartKeyOf → Standing
gone started = record {
  follows = false;
  lives = false;
  server = record { catalogue = record { version = []; databases = []; tables = [] }; pid = 0; secret = 0; strikable = false };
  stage = Closed;
  inbox = [];
  outbox = [];
  accepted = start_of started;
  given = welcome_of started;
  struck = [];
  faults = 0;
  read_waits = 0;
  write_waits = 0;
}
