-- A list of steps that can be taken: a client changes a setting and leaves, after a reset its link
-- serves a second one, and then its server dies.
use Rattle.std.specs.Prelude.{◌≡◌, List, ℕ, [], ◌∷◌, ◌++◌, codes}
use Rattle.std.specs.List.{flat_map}
use Rattle.frame_view.specs.Frames.{FrameOf, spelling}
use Rattle.message_view.specs.declared.kinds.TheConstants.{IDLE}
use Rattle.message_view.specs.Messages.{command_complete, parameter_status, ready_for_query}
use Rattle.message_view.specs.declared.refusal.Refusal.TheVariants.{ServerFailed}
use Rattle.message_view.specs.Refusals.{joined_pieces, refusal}
use Rattle.world_steps.specs.Clients.{given}
use Rattle.world_steps.specs.Clients.Phase.{Served}
use Rattle.world_steps.specs.Links.Role.{Gone}
use Rattle.world_steps.specs.Worlds.{World, own}
use Rattle.world_steps.specs.Steps.{Reached}

-- the answer to `SET application_name TO 'x'`
abbrev pub changed : List FrameOf
changed = command_complete (codes "SET") ∷ parameter_status (codes "application_name") (codes "x") ∷ ready_for_query IDLE ∷ []

pub record Story : Type 0 where
  pub world : World
  pub reached : Reached world
  -- the second client is served over link 1, and no other link was ever started
  pub second : (world.clients 2).phase ≡ Served 1
  pub one_link : world.book.next_link ≡ 2
  -- the first one changed a setting over it
  pub before : List ℕ
  pub first_given : given (world.clients 1) ≡ before ++ flat_map spelling changed
  -- the second one was given all that a server of its own answers
  pub second_given : given (world.clients 2) ≡ joined_pieces (own world (world.clients 2))
  -- then its server dies, it is told that the server failed, and the link is thrown away
  pub later : World
  pub reached_later : Reached later
  pub second_refused : given (later.clients 2) ≡ given (world.clients 2) ++ refusal ServerFailed
  pub link_gone : (later.links 1).role ≡ Gone
