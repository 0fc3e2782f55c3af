-- The laws of start keys: what the pairs of a StartupMessage are, and the key that a stand-in server makes of them.
use Rattle.std.specs.Prelude.{◌≡◌, ◌<◌, ◌≤◌, ℕ, ◌∷◌, List, length, Ok, codes}
use Rattle.std.specs.List.{AllByRecursion}
use Rattle.message_view.specs.Reading.{startup_of}
use Rattle.message_view.specs.Spelled.{FitsPair}
use Rattle.start_keys.specs.Lawful.{AreOrdered, IsLawfulParameter, IsLawfulKey, IsClientKey}
use Rattle.start_keys.specs.State.{StartKeyOf}
use Rattle.start_keys.specs.StartPairs.{Pair, put}
use Rattle.start_keys.specs.StubKeys.{stub, stub_key}

abbrev pub ArePairs : List Pair → Type 0
ArePairs pairs = AllByRecursion IsLawfulParameter pairs

-- The pairs of a StartupMessage of at most 10,000 bytes: names that aren't empty, short values, no byte 0.
abbrev pub PairsAreLawful : Type 0
PairsAreLawful = (body : List ℕ) (pairs : List Pair) → length body ≤ 10000 → startup_of body ≡ Ok pairs → ArePairs pairs

-- A parameter that is put at its place leaves the parameters in order.
abbrev pub PutKeepsOrder : Type 0
PutKeepsOrder = (p : Pair) (ps : List Pair) → AreOrdered ps → AreOrdered (put p ps)

-- The key that a stand-in server makes of such pairs is lawful.
abbrev pub StubKeysAreLawful : Type 0
StubKeysAreLawful = (pairs : List Pair) (key : StartKeyOf) → ArePairs pairs → stub_key pairs ≡ Ok key → IsLawfulKey key

-- ---- the pairs by which a key's server is started

-- user, database, and the key's parameters in their order
abbrev pub key_pairs : StartKeyOf → List Pair
key_pairs key = (codes "user", key.user) ∷ (codes "database", key.dbname) ∷ key.parameters

-- A StartupMessage can spell them.
abbrev pub KeyPairsFit : Type 0
KeyPairsFit = (key : StartKeyOf) → IsLawfulKey key → AllByRecursion FitsPair (key_pairs key)

-- Of a client's key with a database: the server that reads them makes a key of the same database, user and parameters.
abbrev pub StubsOfClientKeys : Type 0
StubsOfClientKeys = (key : StartKeyOf) → IsClientKey key → 0 < length key.dbname → stub_key (key_pairs key) ≡ Ok (stub key.dbname key.user key.parameters)
