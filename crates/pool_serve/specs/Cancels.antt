-- Cancels.
use Rattle.std.specs.Prelude.{◌≡◌, ℕ, true, List, Option, None, Some}
use Rattle.link_model.specs.Standing.{ClientFacts}
use Rattle.link_desk.specs.declared.answers.Cancelled.{Cancelled}
use Rattle.link_desk.specs.declared.calls.Call.TheVariants as call
use Rattle.link_desk.specs.declared.calls.Holder.{Holder}
use Rattle.link_desk.specs.declared.calls.Stage.TheVariants.{Keyed}
use Rattle.link_run.specs.Links.{LinkView}
use Rattle.link_desk.specs.Passes.{PassOf, after_cancel, cancelled_by, granted_lease, lease_at}
use Rattle.login_core.specs.Talk.End.{Stopped}
use Rattle.login_core.specs.Dialogue.{Cancelling, login_among}
use Rattle.login_core.specs.Logins.{LoginView, rows_of}
use Rattle.message_view.specs.declared.KeyWord.{KeyWord}
use Rattle.message_view.specs.Refusals.{joined_pieces}
use Rattle.message_view.specs.declared.views.KeyView.{KeyView}

-- what a client is told in its welcome, by which a cancel names it
abbrev pub key_of : KeyWord → KeyView
key_of word = record { pid = word.pid; secret = word.secret }

-- its lease was keyed, with the client's own words and the server's
pub record IsFound (h : Holder) (link : LinkView) (word : KeyWord) (server : KeyView) : Type 0 where
  pub lease : h.lease ≡ Some (lease_at Keyed link)
  pub last : h.last ≡ Some (call.Keyed link.number (key_of word) server)

-- a cancel finds the lease of a link by its client's key word; of a link whose server told none, by nothing
abbrev pub IsKeyed : Holder → LinkView → KeyWord → Option KeyView → Type 0
IsKeyed h link word None = h.lease ≡ Some (granted_lease link)
IsKeyed h link word (Some server) = IsFound h link word server

-- A client's bytes were a CancelRequest: the desk was asked for the lease of that key word, and told to send the cancel that it answered.
-- The client was given its login's pieces before that, and no byte more.
pub record IsPassedOn (v : LoginView) (p q : PassOf) (h k : Holder) (after : ClientFacts) : Type 0 where
  pub key : KeyView
  pub heard : List ℕ
  pub pieces : List (List ℕ)
  pub asked : login_among (rows_of v) v.word heard ≡ record { pieces = pieces; ended = Stopped (Cancelling key) }
  pub taken : after.tells ≡ true → after.taken ≡ heard
  pub given : after.tells ≡ true → after.given ≡ joined_pieces pieces
  pub answer : Cancelled
  pub counted : q ≡ after_cancel p answer
  pub holder : k ≡ cancelled_by key h answer
