-- A list of steps in which a statement is cancelled, and what comes of it.
use Rattle.std.specs.Prelude.{◌≡◌, ◌≢◌, List, ℕ, [], ◌∷◌, ◌++◌, Some, codes}
use Rattle.std.specs.List.{flat_map}
use Rattle.frame_view.specs.Frames.{FrameOf, spelling}
use Rattle.message_view.specs.declared.kinds.TheConstants.{IDLE}
use Rattle.message_view.specs.Messages.{cancel_request, error_response, ready_for_query}
use Rattle.message_view.specs.Refusals.{joined_pieces}
use Rattle.book_model.specs.Outcomes.{apply}
use Rattle.book_model.specs.Outcomes.Event.{Cancel, EndLease}
use Rattle.book_model.specs.declared.events.Reply.TheVariants.{Dispose, Nobody}
use Rattle.world_steps.specs.Clients.{given, key_of}
use Rattle.world_steps.specs.Clients.Phase.{Served}
use Rattle.world_steps.specs.Links.Role.{Gone}
use Rattle.world_steps.specs.Worlds.{World, own}
use Rattle.world_steps.specs.Steps.{Reached}
use Rattle.world_story.specs.Slips.{IsReachedBy}
use Rattle.world_story.specs.Story.{changed}

-- the answer to a statement that a cancel struck
abbrev pub cancelled : List FrameOf
cancelled = error_response (codes "ERROR") (codes "57014") (codes "statement was cancelled") ∷ ready_for_query IDLE ∷ []

pub record Cancelled : Type 0 where
  pub world : World
  pub reached : Reached world
  -- client 2 asked for the cancel by client 1's key word, and was given nothing
  pub asked : (world.clients 2).sent ≡ cancel_request 1 1
  pub silent : given (world.clients 2) ≡ []
  -- of client 1's two statements the first was struck and the second answered, and it was given all that a server of its own answers so
  pub before : List ℕ
  pub first_given : given (world.clients 1) ≡ before ++ flat_map spelling (cancelled ++ changed)
  pub whole : given (world.clients 1) ≡ joined_pieces (own world (world.clients 1))
  -- its link can't be returned any more, and is thrown away
  pub lease_ends : (apply world.book (EndLease 1)).reply ≡ Dispose
  pub later : World
  pub reached_later : Reached later
  pub link_gone : (later.links 1).role ≡ Gone
  -- a cancel that is asked for then finds nobody
  pub finds_nobody : (apply later.book (Cancel (key_of (later.clients 1)))).reply ≡ Nobody

-- By slips of this kind a cancel that was asked for client 1 comes to the link over which client 2 is served, and strikes its statement.
pub record StrikesAnother (Slip : World → World → Type 0) : Type 0 where
  pub world : World
  pub reached : IsReachedBy Slip world
  pub link : ℕ
  pub second : (world.clients 2).phase ≡ Served link
  pub due : (world.links link).due ≡ Some (key_of (world.clients 1))
  pub others_key : key_of (world.clients 1) ≢ key_of (world.clients 2)
  pub later : World
  pub reached_later : IsReachedBy Slip later
  pub before : List ℕ
  pub second_given : given (later.clients 2) ≡ before ++ flat_map spelling cancelled
