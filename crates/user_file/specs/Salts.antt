-- How a name's password is salted for SCRAM, and the keys that its proof has to fit, be there such a user or not (RFC 5802, section 3;
-- PostgreSQL does so lest who asks can tell which names it has: "mock authentication").
use Rattle.std.specs.Prelude.{ℕ, List, take, if◌then◌else◌, Option, Some, None}
use Rattle.scram.specs.Hmac.{hmac, hi}
use Rattle.scram.specs.Keys.{server_keys}
use Rattle.scram.specs.declared.keys.ServerKeys.{ServerKeys}
use Rattle.sasl_prep.specs.Prepared.{prepared}
use Rattle.user_file.specs.Secrets.{Text}
use Rattle.user_file.specs.declared.secrets.Secret.{Secret}
use Rattle.user_file.specs.declared.secrets.Secret.TheVariants.{Plain, Md5, Scram, Unusable}
use Rattle.user_file.specs.declared.salts.TheConstants.{ROUNDS}
use Rattle.user_file.specs.declared.salts.Salting.{Salting}
use Rattle.user_file.specs.declared.salts.Judging.{Judging}
use Rattle.user_file.specs.declared.user_table.UserRow.{UserRow}

-- the salt of a name, under a key that nobody else knows: the same at each try
abbrev pub salt_for : (key name : Text) → List ℕ
salt_for key name = take 16 (hmac key name)

-- a verifier tells how its password is salted; every other one is by the name's salt
abbrev pub salting_of : Secret → List ℕ → Salting
salting_of (Scram verifier) salt = record { salt = verifier.salt; rounds = verifier.rounds }
salting_of (Plain own) salt = record { salt = salt; rounds = ROUNDS }
salting_of (Md5 own) salt = record { salt = salt; rounds = ROUNDS }
salting_of Unusable salt = record { salt = salt; rounds = ROUNDS }

abbrev pub salting_for : Option UserRow → List ℕ → Salting
salting_for None salt = record { salt = salt; rounds = ROUNDS }
salting_for (Some user) salt = salting_of user.secret salt

-- of a digest no keys are known
abbrev pub keys_of : Secret → List ℕ → Option ServerKeys
keys_of (Plain own) salt = Some (server_keys (hi (prepared own) salt ROUNDS))
keys_of (Scram verifier) salt = Some verifier.keys
keys_of (Md5 own) salt = None
keys_of Unusable salt = None

abbrev pub keys_for : Option UserRow → List ℕ → Option ServerKeys
keys_for None salt = None
keys_for (Some user) salt = keys_of user.secret salt

-- keys that don't count are there to be computed with, and are nobody's
abbrev pub judged_by : Judging → Option ServerKeys
judged_by j = if j.counts then Some j.keys else None
