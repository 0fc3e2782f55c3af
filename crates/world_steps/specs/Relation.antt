-- What every step keeps: one fact for each client with its link, one for each link, one for each of the book's lists, and one for each cancel.
use Rattle.std.specs.Prelude.{◌≡◌, ◌⊎◌, ℕ, ◌≤◌, ◌<◌, true, Some, None, List, [], ◌++◌, map, length, Ok}
use Rattle.std.specs.List.{flat_map, AllByRecursion}
use Rattle.frame_view.specs.declared.Side.TheVariants.{Server}
use Rattle.frame_view.specs.declared.frames.TheConstants.{MAX_FRAME}
use Rattle.frame_view.specs.Frames.{FrameOf, IsFrame, spelling}
use Rattle.message_view.specs.declared.refusal.Refusal.{Refusal}
use Rattle.message_view.specs.declared.views.KeyView.{KeyView}
use Rattle.message_view.specs.Refusals.{Allowed, joined_pieces, refusal}
use Rattle.session_values.specs.Lawful.{IsLawfulCatalogue, IsLawfulKey}
use Rattle.session_values.specs.State.{State, CatalogueOf, StartKeyOf, fresh, Address, address_of}
use Rattle.session_values.specs.Step.{run_frames}
use Rattle.session_values.specs.Service.{welcome}
use Rattle.session_laws.specs.Laws.{IsSent, IsAtRest, Reaches}
use Rattle.login_laws.specs.StartKeys.{IsLawfulRow}
use Rattle.login_core.specs.Talk.End.{Passed}
use Rattle.login_core.specs.Dialogue.{ToLink, login}
use Rattle.login_core.specs.Solo.{after_in, solo_in}
use Rattle.book_model.specs.Laws.{HasLease, HasLink, HasTicket, MayReturn}
use Rattle.world_steps.specs.Clients.{Client, HasCome, IsUnstruck, Phase, key_of}
use Rattle.world_steps.specs.Clients.Phase.{Absent, LoggingIn, Waiting, Starting, Served, Finishing, Refusing, Closed}
use Rattle.world_steps.specs.Links.{Link, Role}
use Rattle.world_steps.specs.Links.Role.{Unborn, Promised, Lent, InReset, Clean, Idle, Gone}
use Rattle.world_steps.specs.Worlds.{AreTogether, HasAsked, IsFor, Strike, World}

-- a beginning of a list, possibly empty or the whole
pub record IsFront {A : Type 0} (xs ys : List A) : Type 0 where
  pub rest : List A
  pub is : xs ++ rest ≡ ys

-- ---- links

-- the server stood in `base` when its link was last clean, and took these frames since, struck as they are marked
pub record Runs (cat : CatalogueOf) (base : State) (y : Link) : Type 0 where
  pub taken : List FrameOf
  pub are_sent : AllByRecursion IsSent taken
  pub marked : length y.struck ≡ length taken
  pub sent_is : y.sent ≡ flat_map spelling taken ++ y.inbox
  pub session_is : y.session ≡ (run_frames cat base y.struck taken).next
  pub told : IsFront (y.received ++ y.outbox) (flat_map spelling (run_frames cat base y.struck taken).replies)
  pub all_told : y.alive ≡ true → y.received ++ y.outbox ≡ flat_map spelling (run_frames cat base y.struck taken).replies

-- its server began fresh
pub record IsLent (cat : CatalogueOf) (y : Link) : Type 0 where
  pub base : State
  pub is_fresh : fresh cat y.key ≡ Ok base
  pub lawful_key : IsLawfulKey y.key
  pub runs : Runs cat base y

-- its server began at rest, and no cancel comes to it
pub record IsInReset (cat : CatalogueOf) (y : Link) : Type 0 where
  pub base : State
  pub reached : Reaches cat y.key base
  pub lawful_key : IsLawfulKey y.key
  pub rests : IsAtRest base
  pub runs : Runs cat base y
  pub undue : y.due ≡ None
  pub unstruck : IsUnstruck y.struck

-- fresh, with nothing under way
pub record IsClean (cat : CatalogueOf) (y : Link) : Type 0 where
  pub is_fresh : fresh cat y.key ≡ Ok y.session
  pub lawful_key : IsLawfulKey y.key
  pub inbox : y.inbox ≡ []
  pub outbox : y.outbox ≡ []
  pub sent : y.sent ≡ []
  pub received : y.received ≡ []
  pub undue : y.due ≡ None
  pub struck : y.struck ≡ []

abbrev pub RoleFits : (Address → CatalogueOf) → Role → Link → Type 0
RoleFits catalogue Unborn y = Unit {0}
RoleFits catalogue (Promised c) y = Unit {0}
RoleFits catalogue (Lent c) y = IsLent (catalogue (address_of y.key)) y
RoleFits catalogue InReset y = IsInReset (catalogue (address_of y.key)) y
RoleFits catalogue Clean y = IsClean (catalogue (address_of y.key)) y
RoleFits catalogue Idle y = IsClean (catalogue (address_of y.key)) y
RoleFits catalogue Gone y = Unit {0}

-- ---- clients

pub record InLogin (read : List ℕ) (x : Client) : Type 0 where
  pub lawful_row : IsLawfulRow x.row.database
  pub sent_is : x.sent ≡ read ++ x.unread
  pub told : x.out ++ x.for_client ≡ joined_pieces (login x.row x.word read).pieces
  pub quiet : x.refusal ≡ []
  pub unstruck : x.struck ≡ []

pub record InQueue (key : StartKeyOf) (x : Client) : Type 0 where
  pub lawful_key : IsLawfulKey key
  pub passed : (login x.row x.word x.sent).ended ≡ Passed (ToLink key) (x.for_link ++ x.unread)
  pub told : x.out ++ x.for_client ≡ joined_pieces (login x.row x.word x.sent).pieces
  pub quiet : x.refusal ≡ []
  pub unstruck : x.struck ≡ []

-- A client with its link: what went over the link, what is held and what is unread are the client's bytes after its login.
-- What it was given and what is held for it are its login's pieces, the welcome and what came over the link. Of its frames those are
-- struck that are at the link.
pub record InService (cat : CatalogueOf) (x : Client) (y : Link) : Type 0 where
  pub base : State
  pub is_fresh : fresh cat y.key ≡ Ok base
  pub passed : (login x.row x.word x.sent).ended ≡ Passed (ToLink y.key) (y.sent ++ (x.for_link ++ x.unread))
  pub told : x.out ++ x.for_client ≡ joined_pieces (login x.row x.word x.sent).pieces ++ (flat_map spelling (welcome base x.word.pid x.word.secret) ++ y.received)
  pub quiet : x.refusal ≡ []
  pub struck : x.struck ≡ y.struck

-- all that it was given and that is held for it begins its login's pieces and some first frames of its service
pub record IsTold (catalogue : Address → CatalogueOf) (x : Client) : Type 0 where
  pub frames : List FrameOf
  pub are_frames : AllByRecursion (IsFrame Server MAX_FRAME) frames
  pub first : IsFront (map spelling frames) (after_in catalogue x.word x.struck (login x.row x.word x.sent).ended)
  pub told : IsFront (x.out ++ x.for_client) (joined_pieces (login x.row x.word x.sent).pieces ++ flat_map spelling frames)
  pub quiet : x.refusal ≡ []

pub record InRefusal (catalogue : Address → CatalogueOf) (left : List ℕ) (x : Client) : Type 0 where
  pub pieces : List (List ℕ)
  pub first : IsFront pieces (solo_in catalogue x.row x.word x.struck x.sent)
  pub out_is : x.out ≡ joined_pieces pieces
  pub cause : Refusal
  pub text_is : x.refusal ++ left ≡ refusal cause

-- what was given of a refusal begins a named one, behind some first whole pieces
pub record IsNamed (catalogue : Address → CatalogueOf) (x : Client) : Type 0 where
  pub pieces : List (List ℕ)
  pub first : IsFront pieces (solo_in catalogue x.row x.word x.struck x.sent)
  pub out_is : x.out ≡ joined_pieces pieces
  pub cause : Refusal
  pub text : IsFront x.refusal (refusal cause)

pub record IsOver (catalogue : Address → CatalogueOf) (x : Client) : Type 0 where
  pub apart : (x.refusal ≡ []) ⊎ IsNamed catalogue x
  pub out_front : IsFront x.out (joined_pieces (solo_in catalogue x.row x.word x.struck x.sent))
  pub allowed : Allowed (x.out ++ x.refusal) (solo_in catalogue x.row x.word x.struck x.sent)

-- the client's phase, and the role of its link, which names it
abbrev pub PhaseFits : (Address → CatalogueOf) → (ℕ → Link) → ℕ → Phase → Client → Type 0
PhaseFits catalogue links c Absent x = (x.out ≡ []) × (x.refusal ≡ []) × (x.struck ≡ [])
PhaseFits catalogue links c (LoggingIn read) x = InLogin read x
PhaseFits catalogue links c (Waiting key) x = InQueue key x
PhaseFits catalogue links c (Starting key l) x = InQueue key x × ((links l).role ≡ Promised c)
PhaseFits catalogue links c (Served l) x = InService (catalogue (address_of (links l).key)) x (links l) × ((links l).role ≡ Lent c)
PhaseFits catalogue links c Finishing x = IsTold catalogue x
PhaseFits catalogue links c (Refusing left) x = InRefusal catalogue left x
PhaseFits catalogue links c Closed x = IsOver catalogue x

-- ---- the book's lists

-- a ticket is of the key that its client waits with, also where a link is to be started for it: it may wait again
abbrev pub TicketFits : StartKeyOf → Phase → Type 0
TicketFits key Absent = ⊥
TicketFits key (LoggingIn read) = ⊥
TicketFits key (Waiting own) = key ≡ own
TicketFits key (Starting own l) = key ≡ own
TicketFits key (Served l) = Unit {0}
TicketFits key Finishing = Unit {0}
TicketFits key (Refusing left) = Unit {0}
TicketFits key Closed = Unit {0}

-- clients, links, and the book's lists
pub record AreRelated (w : World) : Type 0 where
  pub lawful : (address : Address) → IsLawfulCatalogue (w.catalogue address)
  pub clients : (c : ℕ) → PhaseFits w.catalogue w.links c (w.clients c).phase (w.clients c)
  pub links : (l : ℕ) → RoleFits w.catalogue (w.links l).role (w.links l)
  -- the book's idle links are the world's, and links not yet numbered are unborn
  pub idle : (n : ℕ) (key : StartKeyOf) → HasLink n key w.book.idle → ((w.links n).role ≡ Idle) × ((w.links n).key ≡ key)
  pub unborn : (n : ℕ) → w.book.next_link ≤ n → (w.links n).role ≡ Unborn
  -- tickets are of their clients' keys, and the book's numbers are of one client each
  pub tickets : (n : ℕ) (key : StartKeyOf) → HasTicket n key w.book.tickets → (c : ℕ) → (w.clients c).number ≡ Some n → TicketFits key (w.clients c).phase
  pub numbers : (c d n : ℕ) → (w.clients c).number ≡ Some n → (w.clients d).number ≡ Some n → c ≡ d
  pub counted : (c n : ℕ) → (w.clients c).number ≡ Some n → n < w.book.next_client
  pub tickets_counted : (n : ℕ) (key : StartKeyOf) → HasTicket n key w.book.tickets → n < w.book.next_client

-- ---- leases and cancels

-- the book lends no link that is unborn or idle
abbrev pub MayBeLent : Role → Type 0
MayBeLent Unborn = ⊥
MayBeLent Idle = ⊥
MayBeLent _ = Unit {0}

-- the client that a link is lent to has this key word
pub record IsOfClient (x : Client) (key : KeyView) : Type 0 where
  pub came : HasCome x.phase
  pub key_is : key_of x ≡ key

-- the link has the key by which the book lends it
abbrev pub HasLentKey : World → ℕ → Type 0
HasLentKey w l = (key : StartKeyOf) → HasLink l key w.book.lent → (w.links l).key ≡ key

-- A lease that a cancel finds is of a lent link, with its client's and its server's key words; or of one that was thrown away, of which
-- the book wasn't told yet.
abbrev pub LeaseFits : World → ℕ → KeyView → KeyView → Role → Type 0
LeaseFits w l client server (Lent c) = IsOfClient (w.clients c) client × ((w.links l).server_key ≡ Some server) × HasLentKey w l
LeaseFits w l client server Gone = ((w.links l).server_key ≡ Some server) × HasLentKey w l
LeaseFits w l client server _ = ⊥

-- A cancel that is on its way to a link's server, or came to it, was asked for the client that it is lent to, and the link can't return; or
-- the link was thrown away.
abbrev pub StrikeFits : World → ℕ → KeyView → Role → Type 0
StrikeFits w l client (Lent c) = IsOfClient (w.clients c) client × (MayReturn l w.book → ⊥)
StrikeFits w l client Gone = Unit {0}
StrikeFits w l client _ = ⊥

pub record IsOnItsWay (w : World) (s : Strike) : Type 0 where
  pub link : ℕ
  pub goes : IsFor s (w.links link)
  pub fits : StrikeFits w link s.client (w.links link).role
  pub asked : HasAsked w s.client

pub record CancelsFit (w : World) : Type 0 where
  -- a link that the book has lent has the key by which it lends it, from its promise on
  pub lent_roles : (n : ℕ) (key : StartKeyOf) → HasLink n key w.book.lent → MayBeLent (w.links n).role
  pub lent : (n c : ℕ) → (w.links n).role ≡ Lent c → HasLentKey w n
  pub promised : (n c : ℕ) (own key : StartKeyOf) → (w.clients c).phase ≡ Starting own n → HasLink n key w.book.lent → own ≡ key
  -- no two servers at one place told one key word
  pub server_keys : (l m : ℕ) (own : KeyView) → (w.links l).server_key ≡ Some own → (w.links m).server_key ≡ Some own → AreTogether (w.links l).key (w.links m).key → l ≡ m
  pub leases : (n : ℕ) (client server : KeyView) → HasLease n client server w.book.keyed → LeaseFits w n client server (w.links n).role
  pub strikes : AllByRecursion (IsOnItsWay w) w.strikes
  pub due : (l : ℕ) (client : KeyView) → (w.links l).due ≡ Some client → StrikeFits w l client (w.links l).role × HasAsked w client
  pub asked : (c : ℕ) → IsUnstruck (w.clients c).struck ⊎ HasAsked w (key_of (w.clients c))

-- ---- all of it

pub record Related (w : World) : Type 0 where
  pub facts : AreRelated w
  pub cancels : CancelsFit w
