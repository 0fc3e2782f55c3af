-- What may happen next in a world: one step of a client, of its worker, of a server, of a cancel, or of the clock.
use Rattle.std.specs.Prelude.{◌≡◌, ◌≢◌, ℕ, true, false, List, [], ◌∷◌, ◌++◌, Some, None, Ok, Err}
use Rattle.std.specs.List.{flat_map}
use Rattle.frame_view.specs.Frames.{AreBytes, FrameOf, spelling}
use Rattle.message_view.specs.declared.KeyWord.{KeyWord}
use Rattle.message_view.specs.declared.views.KeyView.{KeyView}
use Rattle.message_view.specs.declared.refusal.Refusal.{Refusal}
use Rattle.message_view.specs.Refusals.{joined_pieces, refusal}
use Rattle.session_values.specs.declared.cause.Cause.{Cause}
use Rattle.session_values.specs.Errors.{fatal}
use Rattle.session_values.specs.Lawful.{IsLawfulCatalogue}
use Rattle.session_values.specs.State.{State, StartKeyOf, CatalogueOf, fresh, Address, address_of}
use Rattle.session_values.specs.Step.{step}
use Rattle.session_values.specs.Service.{welcome}
use Rattle.session_laws.specs.Laws.{IsSent, discard_all}
use Rattle.login_laws.specs.StartKeys.{IsLawfulRow}
use Rattle.login_core.specs.Talk.End.{Passed, Stopped}
use Rattle.login_core.specs.Dialogue.{LoginRow, ToLink, Cancelling, login}
use Rattle.book_model.specs.Book.{Book, Limits, empty_book}
use Rattle.book_model.specs.Outcomes.{Answer, Event, apply, apply_return}
use Rattle.book_model.specs.declared.events.Beyond.{Beyond}
use Rattle.book_model.specs.declared.events.Reply.{Reply}
use Rattle.book_model.specs.Outcomes.Event.{Arrive, Ask, Take, Tick, Keyed, Cancel, EndLease, HungUp}
use Rattle.book_model.specs.declared.events.Reply.TheVariants.{Arrived, Lend, Start, Close, Done, Strike as Struck, Reset}
use Rattle.book_model.specs.Laws.{IsPlain}
use Rattle.book_model.specs.Places.{IsPlaceOf}
use Rattle.world_steps.specs.Clients.{AtBorder, Client, HasEnded, MayWrite, key_of, newcomer}
use Rattle.world_steps.specs.Clients.Phase.{Absent, LoggingIn, Waiting, Starting, Served, Finishing, Refusing, Closed}
use Rattle.world_steps.specs.Links.{IsReset, IsSettled, Link, Role, is_due, left_due, newborn}
use Rattle.world_steps.specs.Links.Role.{Unborn, Promised, Lent, InReset, Clean, Idle, Gone}
use Rattle.world_steps.specs.Worlds.{AreTogether, IsFor, Strike, World, with_book, with_client, with_link, with_pair, with_strikes}

-- ---- a client comes and sends, and its worker takes a step of its login

pub data ClientMove (x : Client) : Client → Type 0 where
  comes : (row : LoginRow) (word : KeyWord) → x.phase ≡ Absent → IsLawfulRow row.database → ClientMove x (newcomer row word)
  sends : (bytes : List ℕ) → AreBytes bytes → ClientMove x (record x { sent = x.sent ++ bytes; unread = x.unread ++ bytes })
  reads : (read more rest : List ℕ) (pieces : List (List ℕ)) →
      x.phase ≡ LoggingIn read → x.unread ≡ more ++ rest → (login x.row x.word (read ++ more)).pieces ≡ (login x.row x.word read).pieces ++ pieces →
      ClientMove x (record x { phase = LoggingIn (read ++ more); unread = rest; for_client = x.for_client ++ joined_pieces pieces })
  passes : (read left : List ℕ) (key : StartKeyOf) →
      x.phase ≡ LoggingIn read → (login x.row x.word read).ended ≡ Passed (ToLink key) left →
      ClientMove x (record x { phase = Waiting key; for_link = left })

pub data ClientStep (w : World) : World → Type 0 where
  of_client : (c : ℕ) {x : Client} → ClientMove (w.clients c) x → ClientStep w (with_client w c x)

-- ---- events of the book

-- the book answers so, and is this one then
pub record Gives (answer : Answer) (reply : Reply) (book : Book) : Type 0 where
  pub reply_is : answer.reply ≡ reply
  pub book_is : answer.book ≡ book

-- a client waits for a link of this key, and has this number in the book
pub record Waits (x : Client) (key : StartKeyOf) (number : ℕ) : Type 0 where
  pub phase : x.phase ≡ Waiting key
  pub number_is : x.number ≡ Some number

-- a client's first packet asks to cancel what the client of this key word is at
pub record Asks (x : Client) (key : KeyView) : Type 0 where
  pub read : List ℕ
  pub phase : x.phase ≡ LoggingIn read
  pub ended : (login x.row x.word read).ended ≡ Stopped (Cancelling key)

-- the client is served over a link, and the welcome of a fresh session is held for it
abbrev pub gets_link : Client → ℕ → State → Client
gets_link x l s = record x { phase = Served l; for_client = x.for_client ++ flat_map spelling (welcome s x.word.pid x.word.secret) }

-- a link is to be started for the client
abbrev pub promised : World → ℕ → ℕ → StartKeyOf → World
promised w c l key = with_pair w c (record (w.clients c) { phase = Starting key l }) l (record (w.links l) { role = Promised c })

abbrev pub gone : World → ℕ → World
gone w l = with_link w l (record (w.links l) { role = Gone })

-- a cancel sets out
abbrev pub sets_out : World → Strike → World
sets_out w s = with_strikes w (w.strikes ++ s ∷ [])

-- Each event with what becomes of the links that the reply names. An event that is answered Stranger or Nobody, or refused where no
-- ticket goes, changes nothing: a worker that hears so goes on by the other steps.
pub data BookStep (w : World) : World → Type 0 where
  plain_event : (e : Event) (r : Reply) (b : Book) → IsPlain e r → Gives (apply w.book e) r b → BookStep w (with_book w b)
  -- however many places beyond the limit it may use
  arrives : (c n : ℕ) (read : List ℕ) (beyond : Beyond) (b : Book) →
      (w.clients c).phase ≡ LoggingIn read → (w.clients c).number ≡ None → Gives (apply w.book (Arrive beyond)) (Arrived n) b →
      BookStep w (with_book (with_client w c (record (w.clients c) { number = Some n })) b)
  asks : (c n : ℕ) (key : StartKeyOf) (r : Reply) (b : Book) →
      Waits (w.clients c) key n → Gives (apply w.book (Ask n key)) r b →
      BookStep w (with_book w b)
  is_lent : (c n l : ℕ) (key : StartKeyOf) (s : State) (b : Book) →
      Waits (w.clients c) key n → Gives (apply w.book (Take n)) (Lend l) b → fresh (w.catalogue (address_of key)) key ≡ Ok s →
      BookStep w (with_book (with_pair w c (gets_link (w.clients c) l s) l (record (w.links l) { role = Lent c })) b)
  is_promised : (c n l started_at : ℕ) (key : StartKeyOf) (b : Book) →
      Waits (w.clients c) key n → Gives (apply w.book (Take n)) (Start l started_at None) b →
      BookStep w (with_book (promised w c l key) b)
  is_promised_for : (c n l started_at old : ℕ) (key : StartKeyOf) (b : Book) →
      Waits (w.clients c) key n → Gives (apply w.book (Take n)) (Start l started_at (Some old)) b →
      BookStep w (with_book (promised (gone w old) c l key) b)
  gives_back : (l started_at : ℕ) (b : Book) →
      (w.links l).role ≡ Clean → Gives (apply_return w.book l (w.links l).key started_at) Done b →
      BookStep w (with_book (with_link w l (record (w.links l) { role = Idle })) b)
  gives_back_too_late : (l closed started_at : ℕ) (b : Book) →
      (w.links l).role ≡ Clean → Gives (apply_return w.book l (w.links l).key started_at) (Close closed) b →
      BookStep w (with_book (gone w l) b)
  tick_closes : (now l : ℕ) (b : Book) → Gives (apply w.book (Tick now)) (Close l) b → BookStep w (with_book (gone w l) b)
  -- whatever it is that was seen of the link: nothing is asked of its server
  hung_up_closes : (n l : ℕ) (b : Book) → Gives (apply w.book (HungUp n)) (Close l) b → BookStep w (with_book (gone w l) b)
  -- from now on a cancel finds the lease, by its client's key word
  keys : (c l : ℕ) (own : KeyView) (b : Book) →
      (w.clients c).phase ≡ Served l → (w.links l).server_key ≡ Some own → Gives (apply w.book (Keyed l (key_of (w.clients c)) own)) Done b →
      BookStep w (with_book w b)
  -- a cancel finds a lease; whoever asked for it is given no byte
  cancels : (c l : ℕ) (key own : KeyView) (host : List ℕ) (port : ℕ) (b : Book) →
      Asks (w.clients c) key → Gives (apply w.book (Cancel key)) (Struck l own) b → IsPlaceOf w.book l host port →
      BookStep w (with_book (sets_out w (record { client = key; server = own; host = host; port = port })) b)

-- ---- moves of bytes, any number at once; a server takes one frame, or dies; a cancel comes to its server

-- between a client and its worker
pub data ClientBytes (x : Client) : Client → Type 0 where
  from_client : (l : ℕ) (bytes rest : List ℕ) → x.phase ≡ Served l → x.unread ≡ bytes ++ rest →
      ClientBytes x (record x { unread = rest; for_link = x.for_link ++ bytes })
  to_client : (bytes rest : List ℕ) → MayWrite x.phase → x.for_client ≡ bytes ++ rest →
      ClientBytes x (record x { for_client = rest; out = x.out ++ bytes })

-- between its worker and its link
pub data LeaseBytes (x : Client) (y : Link) : Client → Link → Type 0 where
  to_link : (bytes rest : List ℕ) → x.for_link ≡ bytes ++ rest →
      LeaseBytes x y (record x { for_link = rest }) (record y { inbox = y.inbox ++ bytes; sent = y.sent ++ bytes })
  from_link : (bytes rest : List ℕ) → y.outbox ≡ bytes ++ rest →
      LeaseBytes x y (record x { for_client = x.for_client ++ bytes }) (record y { outbox = rest; received = y.received ++ bytes })

-- a living server has a whole frame to take
pub record HasFrame (y : Link) (f : FrameOf) (rest : List ℕ) : Type 0 where
  pub alive : y.alive ≡ true
  pub is_sent : IsSent f
  pub inbox : y.inbox ≡ spelling f ++ rest

-- it answers the frame, which a cancel may strike
abbrev pub answers : CatalogueOf → Link → FrameOf → List ℕ → Link
answers cat y f rest = record y { session = (step cat y.session (is_due y f) f).next; inbox = rest; outbox = y.outbox ++ flat_map spelling (step cat y.session (is_due y f) f).replies; due = left_due (is_due y f) y.due; struck = y.struck ++ is_due y f ∷ [] }

-- the client that the link is lent to isn't served over it any more, or it is lent to none
abbrev pub IsUnserved : World → ℕ → Role → Type 0
IsUnserved w l (Lent c) = (w.clients c).phase ≢ Served l
IsUnserved w l _ = Unit {0}

-- over a link in reset, and at a server
pub data LinkBytes (cat : CatalogueOf) (y : Link) : Link → Type 0 where
  to_reset : (bytes rest : List ℕ) → y.role ≡ InReset → y.sent ++ (bytes ++ rest) ≡ spelling discard_all →
      LinkBytes cat y (record y { inbox = y.inbox ++ bytes; sent = y.sent ++ bytes })
  from_reset : (bytes rest : List ℕ) → y.role ≡ InReset → y.outbox ≡ bytes ++ rest →
      LinkBytes cat y (record y { outbox = rest; received = y.received ++ bytes })
  server_dies : (kept lost : List ℕ) → y.outbox ≡ kept ++ lost →
      LinkBytes cat y (record y { alive = false; outbox = kept })
  -- a cancel that came need not strike
  strike_passes : LinkBytes cat y (record y { due = None })

pub data ByteStep (w : World) : World → Type 0 where
  by_client : (c : ℕ) {x : Client} → ClientBytes (w.clients c) x → ByteStep w (with_client w c x)
  by_lease : (c l : ℕ) {x : Client} {y : Link} → (w.clients c).phase ≡ Served l → LeaseBytes (w.clients c) (w.links l) x y → ByteStep w (with_pair w c x l y)
  by_link : (l : ℕ) {y : Link} → LinkBytes (w.catalogue (address_of (w.links l).key)) (w.links l) y → ByteStep w (with_link w l y)
  -- what a cancel struck is noted at the client that is served over the link, if any is
  server_answers_client : (c l : ℕ) (f : FrameOf) (rest : List ℕ) → (w.clients c).phase ≡ Served l → HasFrame (w.links l) f rest →
      ByteStep w (with_pair w c (record (w.clients c) { struck = (w.clients c).struck ++ is_due (w.links l) f ∷ [] }) l (answers (w.catalogue (address_of (w.links l).key)) (w.links l) f rest))
  server_answers : (l : ℕ) (f : FrameOf) (rest : List ℕ) → IsUnserved w l (w.links l).role → HasFrame (w.links l) f rest →
      ByteStep w (with_link w l (answers (w.catalogue (address_of (w.links l).key)) (w.links l) f rest))
  -- at any later moment, and before or after others
  strike_arrives : (l : ℕ) (before later : List Strike) (s : Strike) → w.strikes ≡ before ++ s ∷ later → IsFor s (w.links l) →
      ByteStep w (with_strikes (with_link w l (record (w.links l) { due = Some s.client })) (before ++ later))

-- ---- starts, returns, ends of resets, and links thrown away

-- a link in its worker's hand that serves no client
pub data IsInHand : Role → Type 0 where
  in_reset : IsInHand InReset
  clean : IsInHand Clean

-- no server at this place, living or ended, has told this key word
abbrev pub IsNewKey : World → StartKeyOf → KeyView → Type 0
IsNewKey w key own = (m : ℕ) → (w.links m).server_key ≡ Some own → AreTogether (w.links m).key key → ⊥

-- A link is returned with the end of its lease, where no cancel found it.
pub data LinkStep (w : World) : World → Type 0 where
  starts : (c l : ℕ) (key : StartKeyOf) (own : KeyView) (s : State) →
      (w.clients c).phase ≡ Starting key l → fresh (w.catalogue (address_of key)) key ≡ Ok s → IsNewKey w key own →
      LinkStep w (with_pair w c (gets_link (w.clients c) l s) l (newborn c key own s))
  start_fails : (c l : ℕ) (key : StartKeyOf) (cause : Cause) →
      (w.clients c).phase ≡ Starting key l → fresh (w.catalogue (address_of key)) key ≡ Err cause →
      LinkStep w (with_pair w c (record (w.clients c) { phase = Finishing; for_client = (w.clients c).for_client ++ spelling (fatal cause) }) l (record (w.links l) { role = Gone }))
  -- whatever its server answered, or nothing: the client was given nothing of the link, and asks for another as it asked for this one
  start_retries : (c l : ℕ) (key : StartKeyOf) →
      (w.clients c).phase ≡ Starting key l →
      LinkStep w (with_pair w c (record (w.clients c) { phase = Waiting key }) l (record (w.links l) { role = Gone }))
  returns_unused : (c l : ℕ) (b : Book) →
      (w.links l).role ≡ Lent c → HasEnded (w.clients c).phase → (w.links l).sent ≡ [] → (w.links l).received ≡ [] → Gives (apply w.book (EndLease l)) Reset b →
      LinkStep w (with_book (with_link w l (record (w.links l) { role = Clean })) b)
  returns_used : (c l : ℕ) (b : Book) →
      (w.links l).role ≡ Lent c → HasEnded (w.clients c).phase → IsSettled (w.links l).sent (w.links l).received → Gives (apply w.book (EndLease l)) Reset b →
      LinkStep w (with_book (with_link w l (record (w.links l) { role = InReset; sent = []; received = []; struck = [] })) b)
  ends_reset : (l : ℕ) →
      (w.links l).role ≡ InReset → IsReset (w.links l).sent (w.links l).received →
      LinkStep w (with_link w l (record (w.links l) { role = Clean; sent = []; received = []; struck = [] }))
  disposes_lent : (c l : ℕ) → (w.links l).role ≡ Lent c → HasEnded (w.clients c).phase → LinkStep w (gone w l)
  disposes_promised : (c l : ℕ) → (w.links l).role ≡ Promised c → HasEnded (w.clients c).phase → LinkStep w (gone w l)
  disposes : (l : ℕ) → IsInHand (w.links l).role → LinkStep w (gone w l)

-- ---- a worker gives one refusal, or a beginning of it, at a border, and closes; or closes

pub data EndMove (x : Client) : Client → Type 0 where
  refuses : (cause : Refusal) → MayWrite x.phase → AtBorder x → EndMove x (record x { phase = Refusing (refusal cause); for_client = [] })
  refusal_to_client : (bytes rest : List ℕ) → x.phase ≡ Refusing (bytes ++ rest) → EndMove x (record x { phase = Refusing rest; refusal = x.refusal ++ bytes })
  -- the login said its last
  finishes : (read : List ℕ) → x.phase ≡ LoggingIn read → EndMove x (record x { phase = Finishing })
  closes : EndMove x (record x { phase = Closed })

pub data EndStep (w : World) : World → Type 0 where
  of_end : (c : ℕ) {x : Client} → EndMove (w.clients c) x → EndStep w (with_client w c x)

-- ---- every list of steps

pub data Step (w v : World) : Type 0 where
  book_step : BookStep w v → Step w v
  client_step : ClientStep w v → Step w v
  byte_step : ByteStep w v → Step w v
  link_step : LinkStep w v → Step w v
  end_step : EndStep w v → Step w v

-- a world without clients, links and cancels, over lawful catalogues
pub record IsEmpty (w : World) (limits : Limits) : Type 0 where
  pub lawful : (address : Address) → IsLawfulCatalogue (w.catalogue address)
  pub absent : (c : ℕ) → (w.clients c).phase ≡ Absent
  pub unnumbered : (c : ℕ) → (w.clients c).number ≡ None
  pub given_nothing : (c : ℕ) → ((w.clients c).out ≡ []) × ((w.clients c).refusal ≡ [])
  pub unstruck : (c : ℕ) → (w.clients c).struck ≡ []
  pub unborn : (l : ℕ) → (w.links l).role ≡ Unborn
  pub keyless : (l : ℕ) → (w.links l).server_key ≡ None
  pub undue : (l : ℕ) → (w.links l).due ≡ None
  pub no_strikes : w.strikes ≡ []
  pub book_is : w.book ≡ empty_book limits

-- a world that some list of steps leads to
pub data Reached : World → Type 0 where
  begins : {w : World} (limits : Limits) → IsEmpty w limits → Reached w
  goes_on : {w v : World} → Reached w → Step w v → Reached v
