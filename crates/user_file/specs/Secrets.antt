-- Secrets, and what proves that a client knows one (RFC 1321; RFC 5802, section 3; PostgreSQL manual,
-- "Password authentication").
use Rattle.std.specs.Prelude.{◌≡◌, ℕ, Bool, true, false, List, ◌++◌, ◌==◌, ◌&&◌, ◌||◌, if◌then◌else◌, nat_le, nat_eq, length, drop, Option, Some, None, option_map, bytes_eq, codes}
use Rattle.std.specs.List.{list_all, starts_with}
use Rattle.md5.specs.Md5.{md5}
use Rattle.hex.specs.Hex.{encode_lower}
use Rattle.scram.specs.declared.verifier.Verifier.{Verifier}
use Rattle.scram.specs.Verifiers.{verifier_of}
use Rattle.scram.specs.Hmac.{hi}
use Rattle.scram.specs.Keys.{client_key, is_client_key}
use Rattle.scram.specs.declared.server_messages.TheConstants.{MAX_ROUNDS}
use Rattle.sasl_prep.specs.Prepared.{prepared}
use Rattle.user_file.specs.declared.secrets.Secret.{Secret}
use Rattle.user_file.specs.declared.secrets.Secret.TheVariants.{Plain, Md5, Scram, Unusable}

abbrev pub Text : Type 0
Text = List ℕ

-- ---- a secret's text

abbrev pub is_lower_hex : ℕ → Bool
is_lower_hex b = (nat_le 48 b && nat_le b 57) || (nat_le 97 b && nat_le b 102)

-- the digits of `md5` and 32 lower-case hex digits
abbrev pub md5_digits : Text → Option Text
md5_digits text =
    if length text == 35 && starts_with nat_eq text (codes "md5") && list_all is_lower_hex (drop 3 text) then Some (drop 3 text) else None

-- no bytes are no password; and what begins as a verifier does is none, lest who reads a spoiled verifier logs in by its text
abbrev pub is_password : Text → Bool
is_password text = if length text == 0 then false else (if starts_with nat_eq text (codes "SCRAM-SHA-") then false else true)

-- the text of no digest
abbrev pub other_secret : Text → Option Verifier → Secret
other_secret text (Some verifier) = Scram verifier
other_secret text None = if is_password text then Plain text else Unusable

abbrev pub secret_by : Text → Option Text → Secret
secret_by text (Some digits) = Md5 digits
secret_by text None = other_secret text (verifier_of text)

abbrev pub secret_of : Text → Secret
secret_of text = secret_by text (md5_digits text)

-- ---- what a client must give

-- the digits that stand for a password
abbrev pub digits : Text → Text → Text
digits password user = encode_lower (md5 (password ++ user))

-- a verifier keeps none, of which such an answer could be made
abbrev pub stored : Secret → Text → Option Text
stored (Plain password) user = Some (digits password user)
stored (Md5 own) user = Some own
stored (Scram verifier) user = None
stored Unusable user = None

abbrev pub is_verifier : Secret → Bool
is_verifier (Plain password) = false
is_verifier (Md5 own) = false
is_verifier (Scram verifier) = true
is_verifier Unusable = false

abbrev pub answers_md5 : Secret → Bool
answers_md5 (Plain password) = true
answers_md5 (Md5 own) = true
answers_md5 (Scram verifier) = false
answers_md5 Unusable = false

abbrev pub salted_answer : (salt own : Text) → Text
salted_answer salt own = codes "md5" ++ encode_lower (md5 (own ++ salt))

-- the answer to an MD5 question
abbrev pub answer : Secret → Text → Text → Option Text
answer secret user salt = option_map (salted_answer salt) (stored secret user)

-- a password is a verifier's where its client key is; more rounds than a server may ask of its client aren't computed
abbrev pub client_key_by : Verifier → Text → List ℕ
client_key_by verifier password = client_key (hi (prepared password) verifier.salt verifier.rounds)

abbrev pub is_verified : Verifier → Text → Bool
is_verified verifier password = if nat_le verifier.rounds MAX_ROUNDS then is_client_key verifier.keys.stored (client_key_by verifier password) else false

-- a password that came as it is
abbrev pub accepts_plain : Secret → Text → Text → Bool
accepts_plain (Plain own) user password = bytes_eq password own
accepts_plain (Md5 own) user password = bytes_eq (digits password user) own
accepts_plain (Scram verifier) user password = is_verified verifier password
accepts_plain Unusable user password = false

-- what a password that came as it is reveals of a verifier: the client key, by which its user is let in at every server that has the same one
abbrev pub revealed_by : Secret → Text → Option (List ℕ)
revealed_by (Scram verifier) password = if is_verified verifier password then Some (client_key_by verifier password) else None
revealed_by (Plain own) password = None
revealed_by (Md5 own) password = None
revealed_by Unusable password = None

-- and what a client reveals that proves to know a secret: of a verifier the client key, of the others nothing
abbrev pub IsRevealedOf : Secret → Option (List ℕ) → Type 0
IsRevealedOf (Scram verifier) (Some client) = is_client_key verifier.keys.stored client ≡ true
IsRevealedOf (Scram verifier) None = ⊥
IsRevealedOf (Plain own) revealed = revealed ≡ None
IsRevealedOf (Md5 own) revealed = revealed ≡ None
IsRevealedOf Unusable revealed = revealed ≡ None

-- nothing is right where there is no answer
abbrev pub is_right : Text → Option Text → Bool
is_right given (Some right) = bytes_eq given right
is_right given None = false

abbrev pub accepts_md5 : Secret → Text → Text → Text → Bool
accepts_md5 secret user salt given = is_right given (answer secret user salt)
