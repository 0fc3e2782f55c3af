-- The login of a client that comes now.
use Rattle.std.specs.Prelude.{◌≡◌, false, []}
use Rattle.ini_config.specs.Bounds.{AreWithinBounds}
use Rattle.message_view.specs.declared.KeyWord.{KeyWord}
use Rattle.login_core.specs.Dialogue.{AtFirst}
use Rattle.login_core.specs.Logins.{AwaitsPacket, LoginView}

-- it was made with this key word, under settings within their bounds, and has taken no byte
pub record IsNewLogin (given : KeyWord) (v : LoginView) : Type 0 where
  pub awaiting : v.awaiting ≡ AwaitsPacket (AtFirst false false)
  pub held : v.held ≡ []
  pub word : v.word ≡ given
  pub settings : AreWithinBounds v.settings
