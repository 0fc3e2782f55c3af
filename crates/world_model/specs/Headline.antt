-- What holds over every list of steps.
use Rattle.std.specs.Prelude.{◌≡◌, ◌⊎◌, ℕ, List, [], ◌++◌, true, Ok}
use Rattle.std.specs.List.{flat_map}
use Rattle.frame_view.specs.Frames.{spelling}
use Rattle.message_view.specs.declared.refusal.Refusal.{Refusal}
use Rattle.message_view.specs.Refusals.{Allowed, Begins, joined_pieces, refusal}
use Rattle.session_values.specs.State.{StartKeyOf, CatalogueOf, fresh, address_of}
use Rattle.session_values.specs.Step.{run_frames}
use Rattle.session_values.specs.Service.{client_frames}
use Rattle.session_run_laws.specs.Runs.{AreSameMarks}
use Rattle.login_core.specs.Talk.End.{Passed}
use Rattle.login_core.specs.Dialogue.{ToLink, login}
use Rattle.book_model.specs.Laws.{HasLink}
use Rattle.world_steps.specs.Clients.{Client, Phase, given}
use Rattle.world_steps.specs.Clients.Phase.{Starting, Served}
use Rattle.world_steps.specs.Links.{Link}
use Rattle.world_steps.specs.Links.Role.{Promised, Lent}
use Rattle.world_steps.specs.Worlds.{World, own}
use Rattle.world_steps.specs.Steps.{Reached}

-- Whatever happened, what a client was given is a beginning of what a server of its own answers, or some
-- first whole pieces of it and then a refusal or a beginning of one.
abbrev pub EveryWorld : Type 0
EveryWorld = (w : World) → Reached w → (c : ℕ) → Allowed (given (w.clients c)) (own w (w.clients c))

-- ---- two worlds

-- Two clients of two worlds agree: equal login row, key word and bytes in, cancels that struck the same of their frames, and equal
-- catalogues of the place that their login leads to, if it leads to a link.
pub record Agree (w v : World) (x y : Client) : Type 0 where
  pub row : x.row ≡ y.row
  pub word : x.word ≡ y.word
  pub sent : x.sent ≡ y.sent
  pub struck : AreSameMarks x.struck y.struck
  pub catalogue : (key : StartKeyOf) (left : List ℕ) → (login x.row x.word x.sent).ended ≡ Passed (ToLink key) left → w.catalogue (address_of key) ≡ v.catalogue (address_of key)

-- Of two worlds that agree on a client, the one's bytes before any refusal begin the other's.
abbrev pub TwoWorlds : Type 0
TwoWorlds = (w v : World) → Reached w → Reached v → (c d : ℕ) → Agree w v (w.clients c) (v.clients d) → Begins (w.clients c).out (v.clients d).out ⊎ Begins (v.clients d).out (w.clients c).out

-- ---- beside it

-- The part before the refusal, if one follows, is a beginning of the whole too.
abbrev pub OutsBegin : Type 0
OutsBegin = (w : World) → Reached w → (c : ℕ) → Begins (w.clients c).out (joined_pieces (own w (w.clients c)))

-- what was given of a refusal begins a named one, behind some first whole pieces
pub record IsNamed (w : World) (x : Client) : Type 0 where
  pub pieces : List (List ℕ)
  pub kept : List (List ℕ)
  pub pieces_are : pieces ++ kept ≡ own w x
  pub out_is : x.out ≡ joined_pieces pieces
  pub cause : Refusal
  pub begins : Begins x.refusal (refusal cause)

-- What is told apart as a refusal is one.
abbrev pub RefusalsStandApart : Type 0
RefusalsStandApart = (w : World) → Reached w → (c : ℕ) → ((w.clients c).refusal ≡ []) ⊎ IsNamed w (w.clients c)

-- the client is served over the link, or the link is to be started for it
pub data HasIt (phase : Phase) (l : ℕ) : Type 0 where
  is_served : phase ≡ Served l → HasIt phase l
  awaits : (key : StartKeyOf) → phase ≡ Starting key l → HasIt phase l

-- No two clients have a link, and it is lent, or promised, to no other.
abbrev pub LinksServeOne : Type 0
LinksServeOne = (w : World) → Reached w → (c d l : ℕ) → HasIt (w.clients c).phase l → HasIt (w.clients d).phase l ⊎ (((w.links l).role ≡ Lent d) ⊎ ((w.links l).role ≡ Promised d)) → c ≡ d

-- in the fresh session of its key, with nothing under way
pub record IsFreshLink (w : World) (y : Link) : Type 0 where
  pub is_fresh : fresh (w.catalogue (address_of y.key)) y.key ≡ Ok y.session
  pub inbox : y.inbox ≡ []
  pub outbox : y.outbox ≡ []

-- The book's idle links are of the keys by which it lends them, and fresh, where they live.
abbrev pub IdleLinksAreFresh : Type 0
IdleLinksAreFresh = (w : World) → Reached w → (l : ℕ) (key : StartKeyOf) → HasLink l key w.book.idle → ((w.links l).key ≡ key) × ((w.links l).alive ≡ true → IsFreshLink w (w.links l))

-- what a link's server has still to say when these bytes follow those under way, and no cancel strikes
abbrev pub future : CatalogueOf → Link → List ℕ → List ℕ
future cat y more = y.outbox ++ flat_map spelling (run_frames cat y.session [] (client_frames (y.inbox ++ more))).replies

-- What a client with a living link was given, what is held for it and what is still to come are together all that a server of
-- its own answers.
abbrev pub LeasesAreExact : Type 0
LeasesAreExact = (w : World) → Reached w → (c l : ℕ) → (w.clients c).phase ≡ Served l → (w.links l).alive ≡ true
    → ((w.clients c).out ++ (w.clients c).for_client) ++ future (w.catalogue (address_of (w.links l).key)) (w.links l) ((w.clients c).for_link ++ (w.clients c).unread) ≡ joined_pieces (own w (w.clients c))

-- between a client and its link nothing is under way
pub record IsQuiet (x : Client) (y : Link) : Type 0 where
  pub alive : y.alive ≡ true
  pub inbox : y.inbox ≡ []
  pub outbox : y.outbox ≡ []
  pub unread : x.unread ≡ []
  pub for_link : x.for_link ≡ []
  pub for_client : x.for_client ≡ []

-- Where nothing is under way, the client was given all of it.
abbrev pub QuietLeasesAreWhole : Type 0
QuietLeasesAreWhole = (w : World) → Reached w → (c l : ℕ) → (w.clients c).phase ≡ Served l → IsQuiet (w.clients c) (w.links l) → given (w.clients c) ≡ joined_pieces (own w (w.clients c))
