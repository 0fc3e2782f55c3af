-- The law of the key that a login tells where its client asks to cancel.
use Rattle.std.specs.Prelude.{◌≡◌, ℕ, List, ◌++◌}
use Rattle.frame_view.specs.Frames.{AreBytes}
use Rattle.message_view.specs.declared.KeyWord.{KeyWord}
use Rattle.message_view.specs.declared.views.KeyView.{KeyView}
use Rattle.message_view.specs.Messages.{cancel_request}
use Rattle.login_core.specs.Talk.End.{Stopped}
use Rattle.login_core.specs.Dialogue.{Rows, Cancelling, login_among}

-- a CancelRequest with these words stands among the bytes
pub record HasCancelRequest (key : KeyView) (bytes : List ℕ) : Type 0 where
  pub before : List ℕ
  pub behind : List ℕ
  pub bytes_are : bytes ≡ before ++ (cancel_request key.pid key.secret ++ behind)

-- The key with which a login ended whose client asks to cancel was sent by the client.
abbrev pub CancelKeysAreSent : Type 0
CancelKeysAreSent = (rows : Rows) (word : KeyWord) (bytes : List ℕ) (key : KeyView) → AreBytes bytes → (login_among rows word bytes).ended ≡ Stopped (Cancelling key) → HasCancelRequest key bytes
