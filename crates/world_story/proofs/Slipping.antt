-- Steps behind slips, and what they share.
use Rattle.std.proofs.Common.{◌≡◌, ℕ, [], ◌++◌, sym, append-nil}
use Rattle.world_steps.specs.Clients.{MayWrite}
use Rattle.world_steps.specs.Clients.Phase.{Served}
use Rattle.world_steps.specs.Worlds.{World, with_client, with_pair}
use Rattle.world_steps.specs.Steps.{Step}
use Rattle.world_steps.specs.Steps.Step.{byte_step}
use Rattle.world_steps.specs.Steps.ByteStep.{by_client, by_lease}
use Rattle.world_steps.specs.Steps.ClientBytes.{to_client}
use Rattle.world_steps.specs.Steps.LeaseBytes.{from_link}
use Rattle.world_story.specs.Slips.{IsReachedBy}
use Rattle.world_story.specs.Slips.IsReachedBy.{goes_on}

module _ {Slip : World → World → Type 0} where
  unfoldable pub next_do : {w v : World} → Step w v → IsReachedBy Slip w → IsReachedBy Slip v
  next_do s h = goes_on h s

  -- all that its link has for a client is held for it, and all that is held is given to it
  unfoldable pub takes_all : {w : World} (c l : ℕ) → (w.clients c).phase ≡ Served l → IsReachedBy Slip w →
      IsReachedBy Slip (with_pair w c (record (w.clients c) { for_client = (w.clients c).for_client ++ (w.links l).outbox }) l (record (w.links l) { outbox = []; received = (w.links l).received ++ (w.links l).outbox }))
  takes_all {w} c l e h = next_do (byte_step (by_lease c l e (from_link (w.links l).outbox [] (sym (append-nil (w.links l).outbox))))) h

  unfoldable pub gives_rest : {w : World} (c : ℕ) → MayWrite (w.clients c).phase → IsReachedBy Slip w → IsReachedBy Slip (with_client w c (record (w.clients c) { for_client = []; out = (w.clients c).out ++ (w.clients c).for_client }))
  gives_rest {w} c m h = next_do (byte_step (by_client c (to_client (w.clients c).for_client [] m (sym (append-nil (w.clients c).for_client))))) h
