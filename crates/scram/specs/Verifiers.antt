-- What a server keeps of a password in place of it (PostgreSQL manual, "pg_authid"; RFC 5803, section 2).
use Rattle.std.specs.Prelude.{ℕ, List, ◌&&◌, if◌then◌else◌, nat_le, length, Option, Some, None, codes}
use Rattle.scram.specs.Keys.{Text}
use Rattle.scram.specs.Texts.{◌>>=◌, behind, split_at_first, number_between, from_base64, key_in}
use Rattle.scram.specs.declared.verifier.Verifier.{Verifier}
use Rattle.scram.specs.declared.verifier.TheConstants.{MAX_SALT, MAX_ROUNDS_KEPT}

-- a salt has from one byte to 64
abbrev pub salt_in : Text → Option (List ℕ)
salt_in text = do
  bytes ← from_base64 text
  if nat_le 1 (length bytes) && nat_le (length bytes) MAX_SALT then Some bytes else None

-- `SCRAM-SHA-256$`, the rounds, `:`, the salt, `$`, StoredKey, `:`, ServerKey, the last three in base64
unfoldable pub verifier_of : Text → Option Verifier
verifier_of text = do
  rest ← behind (codes "SCRAM-SHA-256$") text
  rounds ← split_at_first 58 rest
  salt ← split_at_first 36 rounds.1
  keys ← split_at_first 58 salt.1
  n ← number_between 1 MAX_ROUNDS_KEPT rounds.0
  s ← salt_in salt.0
  stored ← key_in keys.0
  server ← key_in keys.1
  Some (record { rounds = n; salt = s; keys = record { stored = stored; server = server } })
