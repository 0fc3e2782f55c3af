-- The codes of what is wrong with a line.
use Rattle.std.specs.Prelude.{ℕ, List, codes}
use Rattle.ini_config.specs.declared.faults.IniCause.{IniCause}
use Rattle.ini_config.specs.declared.faults.IniCause.TheVariants as ini
use Rattle.user_file.specs.declared.faults.UserCause.{UserCause}
use Rattle.user_file.specs.declared.faults.UserCause.TheVariants as users

abbrev pub ini_code : IniCause → List ℕ
ini_code ini.UnknownSection = codes "C1"
ini_code ini.UnknownKey = codes "C2"
ini_code ini.BadValue = codes "C3"
ini_code ini.KeyTwice = codes "C4"
ini_code ini.PoolMode = codes "C5"
ini_code ini.ResetQuery = codes "C6"
ini_code ini.NotALine = codes "C7"
ini_code ini.Memory = codes "C8"

abbrev pub users_code : UserCause → List ℕ
users_code users.BadQuoting = codes "U1"
users_code users.NameTwice = codes "U2"
users_code users.Memory = codes "U3"
