-- Secrets by which nobody can log in.
use Rattle.std.specs.Prelude.{◌≡◌, false, nat_le, if◌then◌else◌, Option, Some, None}
use Rattle.ini_config.specs.declared.option_values.AuthType.{AuthType}
use Rattle.ini_config.specs.declared.option_values.AuthType.TheVariants.{Trust, Plain, Md5, ScramSha256}
use Rattle.scram.specs.declared.server_messages.TheConstants.{MAX_ROUNDS}
use Rattle.user_file.specs.Salts.{keys_of}
use Rattle.user_file.specs.Secrets.{Text, accepts_md5, accepts_plain}
use Rattle.user_file.specs.declared.secrets.Secret.{Secret}
use Rattle.user_file.specs.declared.secrets.Secret.TheVariants as secret
use Rattle.log_lines.specs.declared.notes.LoginFailure.{LoginFailure}
use Rattle.log_lines.specs.declared.notes.LoginFailure.TheVariants.{Digest, NoSecret, Rounds}

-- why nobody can: it is no secret; a digest has no keys by which a proof is judged; a verifier's rounds are too many to be computed
abbrev pub uselessness : AuthType → Secret → Option LoginFailure
uselessness Trust s = None
uselessness Plain secret.Unusable = Some NoSecret
uselessness Plain (secret.Scram verifier) = if nat_le verifier.rounds MAX_ROUNDS then None else Some Rounds
uselessness Plain (secret.Plain password) = None
uselessness Plain (secret.Md5 digits) = None
uselessness Md5 secret.Unusable = Some NoSecret
uselessness Md5 (secret.Scram verifier) = None
uselessness Md5 (secret.Plain password) = None
uselessness Md5 (secret.Md5 digits) = None
uselessness ScramSha256 secret.Unusable = Some NoSecret
uselessness ScramSha256 (secret.Md5 digits) = Some Digest
uselessness ScramSha256 (secret.Plain password) = None
uselessness ScramSha256 (secret.Scram verifier) = None

-- whatever is given is wrong
abbrev pub AcceptsNothing : AuthType → Secret → Type 0
AcceptsNothing Trust s = ⊥
AcceptsNothing Plain s = (user given : Text) → accepts_plain s user given ≡ false
AcceptsNothing Md5 s = ((user salt given : Text) → accepts_md5 s user salt given ≡ false) × ((salt : Text) → keys_of s salt ≡ None)
AcceptsNothing ScramSha256 s = (salt : Text) → keys_of s salt ≡ None
