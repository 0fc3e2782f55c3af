-- A user's secret, what its client revealed of it, and the nonce of one start, with the first message of SCRAM (RFC 5802, section 7; PostgreSQL manual, "SASL
-- Authentication" and "Message Formats").
use Rattle.std.specs.Prelude.{ℕ, Bool, true, false, List, ◌∷◌, ◌++◌, length, Option, is_some, codes}
use Rattle.std.specs.Int.{w32, w64, to_be_bytes}
use Rattle.frame_view.specs.declared.client.TheConstants.{PASSWORD_MESSAGE}
use Rattle.frame_view.specs.Frames.{FrameOf}
use Rattle.message_view.specs.Messages.{message}
use Rattle.message_view.specs.declared.KeyWord.{KeyWord}
use Rattle.user_file.specs.declared.secrets.Secret.{Secret}
use Rattle.user_file.specs.declared.secrets.Secret.TheVariants.{Plain, Md5, Scram, Unusable}
use Rattle.scram.specs.Messages.{first, nonce_of}

abbrev pub Text : Type 0
Text = List ℕ

pub record CredentialOf : Type 0 where
  pub secret : Secret
  -- the client key that belongs to a verifier
  pub revealed : Option Text
  pub nonce : Text

abbrev pub credential_of : Secret → Option Text → Text → CredentialOf
credential_of secret revealed nonce = record { secret = secret; revealed = revealed; nonce = nonce }

-- of the client's key word and the link's number
abbrev pub start_nonce : KeyWord → ℕ → Text
start_nonce word number =
    nonce_of (codes "link" ++ to_be_bytes w32 word.pid ++ to_be_bytes w32 word.secret ++ word.salt ++ to_be_bytes w64 number)

-- a password answers, and a verifier whose client key is known
abbrev pub has_client_key : Secret → Option Text → Bool
has_client_key (Plain password) revealed = true
has_client_key (Md5 digits) revealed = false
has_client_key (Scram verifier) revealed = is_some revealed
has_client_key Unusable revealed = false

abbrev pub answers_scram : CredentialOf → Bool
answers_scram c = has_client_key c.secret c.revealed

-- SASLInitialResponse: the mechanism's name with a zero byte, and the client's first message behind its length
abbrev pub initial_response : Text → FrameOf
initial_response text = message PASSWORD_MESSAGE (codes "SCRAM-SHA-256" ++ (0 ∷ (to_be_bytes w32 (length text) ++ text)))

abbrev pub first_response : CredentialOf → FrameOf
first_response c = initial_response (first c.nonce)
