-- What is derived from a password, and kept.
use Rattle.std.specs.Prelude.{◌≡◌, ℕ, List}
use Rattle.scram.specs.Hmac.{hi}
use Rattle.scram.specs.Keys.{server_keys}
use Rattle.sasl_prep.specs.Prepared.{prepared}
use Rattle.user_file.specs.declared.password.Salted.{Salted}

pub record DerivedOf : Type 0 where
  pub password : List ℕ
  pub salt : List ℕ
  pub rounds : ℕ
  pub salted : Salted

abbrev pub derived : List ℕ → List ℕ → ℕ → Salted → DerivedOf
derived password salt rounds salted = record { password = password; salt = salt; rounds = rounds; salted = salted }

-- SaltedPassword of a password that is prepared, and the keys that a server keeps of it
pub record IsSalted (password salt : List ℕ) (rounds : ℕ) (s : Salted) : Type 0 where
  pub password_is : s.password ≡ hi (prepared password) salt rounds
  pub keys_are : s.keys ≡ server_keys (hi (prepared password) salt rounds)

pub record IsDerivedFrom (password salt : List ℕ) (rounds : ℕ) (d : DerivedOf) : Type 0 where
  pub password_is : d.password ≡ password
  pub salt_is : d.salt ≡ salt
  pub rounds_are : d.rounds ≡ rounds
