-- The world: clients, links, the book, and the cancels on their way. What a server of a client's own would answer in it.
use Rattle.std.specs.Prelude.{◌≡◌, ℕ, List, ◌==◌, if◌then◌else◌, Some}
use Rattle.message_view.specs.declared.views.KeyView.{KeyView}
use Rattle.session_values.specs.State.{Address, CatalogueOf, StartKeyOf}
use Rattle.login_core.specs.Talk.End.{Stopped}
use Rattle.login_core.specs.Dialogue.{Cancelling, login}
use Rattle.login_core.specs.Solo.{solo_in}
use Rattle.book_model.specs.Book.{Book}
use Rattle.world_steps.specs.Clients.{Client, HasCome}
use Rattle.world_steps.specs.Links.{Link}

-- A cancel on its way: the key word of the client for which it was asked, and to which server it goes. What goes over the wire is the
-- server's key word alone.
pub record Strike : Type 0 where
  pub client : KeyView
  pub server : KeyView
  pub host : List ℕ
  pub port : ℕ

-- clients and links by number
pub record World : Type 0 where
  -- what stands behind each database row, for the whole run
  pub catalogue : Address → CatalogueOf
  pub clients : ℕ → Client
  pub links : ℕ → Link
  pub book : Book
  pub strikes : List Strike

abbrev pub put : {A : Type 0} → (ℕ → A) → ℕ → A → ℕ → A
put f k x i = if i == k then x else f i

abbrev pub with_client : World → ℕ → Client → World
with_client w c x = record w { clients = put w.clients c x }

abbrev pub with_link : World → ℕ → Link → World
with_link w l y = record w { links = put w.links l y }

abbrev pub with_pair : World → ℕ → Client → ℕ → Link → World
with_pair w c x l y = record w { clients = put w.clients c x; links = put w.links l y }

abbrev pub with_book : World → Book → World
with_book w b = record w { book = b }

abbrev pub with_strikes : World → List Strike → World
with_strikes w strikes = record w { strikes = strikes }

-- ---- cancels

-- some client's first packet asked to cancel what the client of this key word is at
pub record HasAsked (w : World) (key : KeyView) : Type 0 where
  pub client : ℕ
  pub came : HasCome (w.clients client).phase
  pub ended : (login (w.clients client).row (w.clients client).word (w.clients client).sent).ended ≡ Stopped (Cancelling key)

-- the cancel goes to this link's server: it told that key word, and is at that place
pub record IsFor (s : Strike) (y : Link) : Type 0 where
  pub key : y.server_key ≡ Some s.server
  pub host : y.key.host ≡ Some s.host
  pub port : y.key.port ≡ s.port

-- servers at one place
pub record AreTogether (a b : StartKeyOf) : Type 0 where
  pub host : a.host ≡ b.host
  pub port : a.port ≡ b.port

-- ---- alone with a server

abbrev pub own : World → Client → List (List ℕ)
own w x = solo_in w.catalogue x.row x.word x.struck x.sent
