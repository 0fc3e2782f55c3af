-- What a password, or a verifier and its client key, make of a server's challenge (RFC 5802, section 3).
use Rattle.std.specs.Prelude.{◌≡◌, Bool, ◌++◌, ◌==◌, ◌&&◌, if◌then◌else◌, Option, Some, None, option_and_then, option_map, bytes_eq, codes}
use Rattle.user_file.specs.declared.secrets.Secret.{Secret}
use Rattle.user_file.specs.declared.secrets.Secret.TheVariants.{Plain, Md5, Scram, Unusable}
use Rattle.sasl_prep.specs.Prepared.{prepared}
use Rattle.scram.specs.Hmac.{hi}
use Rattle.scram.specs.declared.keys.ClientKeys.{ClientKeys}
use Rattle.scram.specs.Keys.{auth_message, client_keys, proof}
use Rattle.scram.specs.declared.verifier.Verifier.{Verifier}
use Rattle.scram.specs.Messages.{ChallengeOf, challenge_of, final, last, unproved}
use Rattle.credentials.specs.Credentials.{Text, CredentialOf, credential_of}

-- the client's answer, and the server's own proof, which has to follow
pub record ExchangeOf : Type 0 where
  pub last : Text
  pub proof : Text

-- the client's first message without its header
abbrev pub bare : (nonce : Text) → Text
bare nonce = codes "n=,r=" ++ nonce

abbrev pub proved_over : ClientKeys → (joint auth : Text) → ExchangeOf
proved_over keys joint auth = record { last = last joint (proof keys.client auth); proof = final keys.server auth }

-- by the client's nonce, the challenge, and the nonce of both in it
abbrev pub exchange_by : ClientKeys → (nonce challenge joint : Text) → ExchangeOf
exchange_by keys nonce challenge joint = proved_over keys joint (auth_message (bare nonce) challenge (unproved (codes "n,,") joint))

abbrev pub exchange_with : (password nonce challenge : Text) → ChallengeOf → ExchangeOf
exchange_with password nonce challenge c = exchange_by (client_keys (hi (prepared password) c.salt c.rounds)) nonce challenge c.nonce

-- a client key is that of the server's verifier where this one is salted as ours
abbrev pub is_salted_as : Verifier → ChallengeOf → Bool
is_salted_as verifier c = bytes_eq c.salt verifier.salt && c.rounds == verifier.rounds

abbrev pub verifier_keys : Verifier → (client : Text) → ClientKeys
verifier_keys verifier client = record { client = client; server = verifier.keys.server }

abbrev pub exchange_under : Verifier → (client nonce challenge : Text) → ChallengeOf → Option ExchangeOf
exchange_under verifier client nonce challenge c =
    if is_salted_as verifier c then Some (exchange_by (verifier_keys verifier client) nonce challenge c.nonce) else None

abbrev pub exchange_by_key : Verifier → Option Text → (nonce challenge : Text) → Option ExchangeOf
exchange_by_key verifier None nonce challenge = None
exchange_by_key verifier (Some client) nonce challenge = option_and_then (exchange_under verifier client nonce challenge) (challenge_of nonce challenge)

abbrev pub exchange_over : Secret → Option Text → (nonce challenge : Text) → Option ExchangeOf
exchange_over (Plain password) revealed nonce challenge = option_map (exchange_with password nonce challenge) (challenge_of nonce challenge)
exchange_over (Scram verifier) revealed nonce challenge = exchange_by_key verifier revealed nonce challenge
exchange_over (Md5 digits) revealed nonce challenge = None
exchange_over Unusable revealed nonce challenge = None

-- none where neither a password nor a client key is there, or the text is no challenge to the nonce, or it is salted as no client key is
unfoldable pub exchange_of : CredentialOf → Text → Option ExchangeOf
exchange_of c challenge = exchange_over c.secret c.revealed c.nonce challenge

-- ---- what was made once, and is kept

pub record MadeOf : Type 0 where
  pub password : Text
  pub nonce : Text
  pub challenge : Text
  pub exchange : ExchangeOf

abbrev pub made_of : (password nonce challenge : Text) → ExchangeOf → MadeOf
made_of password nonce challenge exchange = record { password = password; nonce = nonce; challenge = challenge; exchange = exchange }

abbrev pub IsMade : MadeOf → Type 0
IsMade m = exchange_of (credential_of (Plain m.password) None m.nonce) m.challenge ≡ Some m.exchange
