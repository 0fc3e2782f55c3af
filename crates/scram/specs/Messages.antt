-- The messages of SCRAM (RFC 5802, section 7), as PostgreSQL reads and writes them: no channel binding, no authorization identity.
use Rattle.std.specs.Prelude.{ℕ, ◌-◌, not, Bool, List, [], ◌∷◌, ◌++◌, ◌==◌, ◌&&◌, ◌||◌, if◌then◌else◌, nat_le, nat_lt, nat_eq, length, take, drop, Option, Some, None, bytes_eq, codes, decimal}
use Rattle.std.specs.List.{list_all, starts_with}
use Rattle.sha2.specs.Sha256.{sha256}
use Rattle.scram.specs.Keys.{Text, signature}
use Rattle.scram.specs.Texts.{◌>>=◌, behind, split_at_first, number_between, base64, key_in, attribute, first_part}
use Rattle.scram.specs.Verifiers.{salt_in}
use Rattle.scram.specs.declared.client_messages.First.{First}
use Rattle.scram.specs.declared.client_messages.Last.{Last}
use Rattle.scram.specs.declared.server_messages.Challenge.{Challenge}
use Rattle.scram.specs.declared.server_messages.TheConstants.{MAX_ROUNDS}
use Rattle.scram.specs.declared.client_messages.TheConstants.{MAX_JOINT_NONCE, MAX_NONCE}

-- ---- the client's first message

pub record FirstOf : Type 0 where
  -- the GS2 header: `n,,`, or `y,,` of a client that could bind the channel and takes it that the server can't
  pub header : Text
  -- what follows it
  pub bare : Text
  pub nonce : Text

abbrev pub first_view : First → FirstOf
first_view x = record { header = x.header.now; bare = x.bare.now; nonce = x.nonce.now }

-- printing characters; a comma isn't among them, since it ends the attribute
abbrev pub is_printing : ℕ → Bool
is_printing b = nat_le 33 b && nat_le b 126

abbrev pub is_nonce : Text → Bool
is_nonce text = not (length text == 0) && (nat_le (length text) MAX_NONCE && list_all is_printing text)

abbrev pub is_header : Text → Bool
is_header text = bytes_eq text (codes "n,,") || bytes_eq text (codes "y,,")

abbrev pub first_with : Text → Text → Option FirstOf
first_with text nonce =
    if is_header (take 3 text) && is_nonce nonce then Some (record { header = take 3 text; bare = drop 3 text; nonce = nonce }) else None

-- A name, which doesn't count, and a nonce. What follows the nonce isn't looked at, and is part of what is proved.
unfoldable pub first_of : Text → Option FirstOf
first_of text = do
  name ← attribute 110 (first_part (drop 3 text)).0
  nonce ← attribute 114 (first_part (first_part (drop 3 text)).1).0
  first_with text nonce

-- that of a client with this nonce
abbrev pub first : Text → Text
first nonce = codes "n,,n=,r=" ++ nonce

-- ---- the challenge

abbrev pub challenge : (nonce salt : List ℕ) → (rounds : ℕ) → Text
challenge nonce salt rounds = codes "r=" ++ nonce ++ codes ",s=" ++ base64 salt ++ codes ",i=" ++ decimal rounds

pub record ChallengeOf : Type 0 where
  pub nonce : Text
  pub salt : List ℕ
  pub rounds : ℕ

abbrev pub challenge_view : Challenge → ChallengeOf
challenge_view x = record { nonce = x.nonce.now; salt = x.salt; rounds = x.rounds }

-- of a client that sent this nonce: that of both begins with it, and the server adds something
abbrev pub challenge_with : Text → Text → List ℕ → ℕ → Option ChallengeOf
challenge_with own nonce salt rounds =
    if starts_with nat_eq nonce own && (nat_lt (length own) (length nonce) && nat_le (length nonce) MAX_JOINT_NONCE) then Some (record { nonce = nonce; salt = salt; rounds = rounds }) else None

unfoldable pub challenge_of : Text → Text → Option ChallengeOf
challenge_of own text = do
  first ← split_at_first 44 text
  second ← split_at_first 44 first.1
  nonce ← attribute 114 first.0
  salted ← attribute 115 second.0
  counted ← attribute 105 second.1
  salt ← salt_in salted
  rounds ← number_between 1 MAX_ROUNDS counted
  challenge_with own nonce salt rounds

-- ---- the client's last message

-- without its proof
abbrev pub unproved : (header nonce : Text) → Text
unproved header nonce = codes "c=" ++ base64 header ++ codes ",r=" ++ nonce

pub record LastOf : Type 0 where
  pub unproved : Text
  pub proof : List ℕ

abbrev pub last_view : Last → LastOf
last_view x = record { unproved = x.unproved.now; proof = x.proof }

-- a text goes on from this one by further attributes, if at all
abbrev pub goes_on : Text → Text → Bool
goes_on front text = bytes_eq text front || starts_with nat_eq text (front ++ 44 ∷ [])

abbrev pub last_with : (header nonce front : Text) → List ℕ → Option LastOf
last_with header nonce front given = if goes_on (unproved header nonce) front then Some (record { unproved = front; proof = given }) else None

-- its last 47 bytes are `,p=` and the proof in base64
abbrev pub front_of : Text → Text
front_of text = take (length text - 47) text

abbrev pub proof_in : Text → Option (List ℕ)
proof_in tail = do
  text ← behind (codes ",p=") tail
  key_in text

unfoldable pub last_of : (header nonce : Text) → Text → Option LastOf
last_of header nonce text = do
  given ← proof_in (drop (length text - 47) text)
  last_with header nonce (front_of text) given

-- that of a client that binds no channel
abbrev pub last : (nonce : Text) → (given : List ℕ) → Text
last nonce given = unproved (codes "n,,") nonce ++ codes ",p=" ++ base64 given

-- ---- the server's last message

abbrev pub final : (server : List ℕ) → (auth : Text) → Text
final server auth = codes "v=" ++ base64 (signature server auth)

-- ---- nonces

-- the nonce that these bytes give, which nobody can guess who doesn't know them
abbrev pub nonce_of : List ℕ → Text
nonce_of secret = base64 (take 18 (sha256 secret))
