-- What would be so if a premise of the steps were left out, one at a time: a client is given what no server of its own answers.
use Rattle.std.specs.Prelude.{◌≡◌, ℕ, List, [], ◌++◌, Ok, false}
use Rattle.std.specs.List.{flat_map}
use Rattle.frame_view.specs.Frames.{spelling}
use Rattle.message_view.specs.declared.KeyWord.{KeyWord}
use Rattle.message_view.specs.declared.refusal.Refusal.{Refusal}
use Rattle.message_view.specs.declared.views.KeyView.{KeyView}
use Rattle.message_view.specs.Refusals.{Allowed, Begins, joined_pieces, refusal}
use Rattle.session_values.specs.Service.{welcome}
use Rattle.session_values.specs.State.{State, StartKeyOf, address_of, fresh}
use Rattle.book_model.specs.Book.{Book}
use Rattle.book_model.specs.Outcomes.{apply}
use Rattle.book_model.specs.Outcomes.Event.{EndLease}
use Rattle.book_model.specs.declared.events.Reply.TheVariants.{Dispose, Reset}
use Rattle.world_steps.specs.Clients.{HasEnded, MayWrite, given}
use Rattle.world_steps.specs.Clients.Phase.{LoggingIn, Refusing, Served, Starting, Waiting}
use Rattle.world_steps.specs.Links.{IsSettled, newborn}
use Rattle.world_steps.specs.Links.Role.{Clean, Gone, InReset, Lent}
use Rattle.world_steps.specs.Worlds.{World, own, with_book, with_client, with_link, with_pair}
use Rattle.world_steps.specs.Steps.{Gives, IsNewKey, Reached, Step, gets_link}

-- a world that steps lead to, and slips of this kind
pub data IsReachedBy (Slip : World → World → Type 0) : World → Type 0 where
  so_far : {w : World} → Reached w → IsReachedBy Slip w
  slips : {w v : World} → IsReachedBy Slip w → Slip w v → IsReachedBy Slip v
  goes_on : {w v : World} → IsReachedBy Slip w → Step w v → IsReachedBy Slip v

-- by slips of this kind a client comes to be given what begins nothing that a server of its own answers
pub record Spoils (Slip : World → World → Type 0) (client : ℕ) : Type 0 where
  pub world : World
  pub reached : IsReachedBy Slip world
  pub wrong : Begins (world.clients client).out (joined_pieces (own world (world.clients client))) → ⊥

-- ---- the slips

-- a settled link is clean without a reset
pub data SkipsReset (w : World) : World → Type 0 where
  skips_reset : (c l : ℕ) (b : Book) → (w.links l).role ≡ Lent c → HasEnded (w.clients c).phase → IsSettled (w.links l).sent (w.links l).received → Gives (apply w.book (EndLease l)) Reset b →
      SkipsReset w (with_book (with_link w l (record (w.links l) { role = Clean; sent = []; received = []; struck = [] })) b)

-- a link is reset that isn't settled
pub data Hurries (w : World) : World → Type 0 where
  hurries : (c l : ℕ) (b : Book) → (w.links l).role ≡ Lent c → HasEnded (w.clients c).phase → Gives (apply w.book (EndLease l)) Reset b →
      Hurries w (with_book (with_link w l (record (w.links l) { role = InReset; sent = []; received = []; struck = [] })) b)

-- a server that dies leaves bytes that it never gave
pub data DiesLying (w : World) : World → Type 0 where
  dies_lying : (l : ℕ) (bytes : List ℕ) → DiesLying w (with_link w l (record (w.links l) { alive = false; outbox = bytes }))

-- a client is welcomed with another key word
pub data Misnames (w : World) : World → Type 0 where
  misnames : (c l : ℕ) (key : StartKeyOf) (own : KeyView) (s : State) (word : KeyWord) → (w.clients c).phase ≡ Starting key l → fresh (w.catalogue (address_of key)) key ≡ Ok s → IsNewKey w key own →
      Misnames w (with_pair w c (record (w.clients c) { phase = Served l; for_client = (w.clients c).for_client ++ flat_map spelling (welcome s word.pid word.secret) }) l (newborn c key own s))

-- a login passes with any key
pub data PassesSomehow (w : World) : World → Type 0 where
  passes_somehow : (c : ℕ) (read : List ℕ) (key : StartKeyOf) → (w.clients c).phase ≡ LoggingIn read → PassesSomehow w (with_client w c (record (w.clients c) { phase = Waiting key; for_link = [] }))

-- a client asks for another link that was welcomed over one
pub data AsksAgain (w : World) : World → Type 0 where
  asks_again : (c l : ℕ) → (w.clients c).phase ≡ Served l → AsksAgain w (with_pair w c (record (w.clients c) { phase = Waiting (w.links l).key }) l (record (w.links l) { role = Gone }))

-- a link is returned though a cancel found its lease
pub data ReturnsMarked (w : World) : World → Type 0 where
  returns_unused : (c l : ℕ) (b : Book) → (w.links l).role ≡ Lent c → HasEnded (w.clients c).phase → (w.links l).sent ≡ [] → (w.links l).received ≡ [] → Gives (apply w.book (EndLease l)) Dispose b →
      ReturnsMarked w (with_book (with_link w l (record (w.links l) { role = Clean })) b)
  returns_used : (c l : ℕ) (b : Book) → (w.links l).role ≡ Lent c → HasEnded (w.clients c).phase → IsSettled (w.links l).sent (w.links l).received → Gives (apply w.book (EndLease l)) Dispose b →
      ReturnsMarked w (with_book (with_link w l (record (w.links l) { role = InReset; sent = []; received = []; struck = [] })) b)

-- a server tells a key word that another told before
pub data RepeatsKey (w : World) : World → Type 0 where
  repeats_key : (c l : ℕ) (key : StartKeyOf) (own : KeyView) (s : State) → (w.clients c).phase ≡ Starting key l → fresh (w.catalogue (address_of key)) key ≡ Ok s →
      RepeatsKey w (with_pair w c (gets_link (w.clients c) l s) l (newborn c key own s))

-- a client is refused at no border
pub data BreaksOff (w : World) : World → Type 0 where
  breaks_off : (c : ℕ) (cause : Refusal) → MayWrite (w.clients c).phase → BreaksOff w (with_client w c (record (w.clients c) { phase = Refusing (refusal cause); for_client = [] }))

-- so what client 1 was given with its refusal is allowed by no answer of a server of its own
pub record SpoilsRefusal : Type 0 where
  pub world : World
  pub reached : IsReachedBy BreaksOff world
  pub wrong : Allowed (given (world.clients 1)) (own world (world.clients 1)) → ⊥
