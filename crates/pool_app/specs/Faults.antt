-- The line that tells a fault, and the status of the program after it.
use Rattle.std.specs.Prelude.{ℕ, List, ◌++◌, codes, decimal, string_bytes}
use Rattle.settings_check.specs.Codes.{ini_code, users_code}
use Rattle.session_catalogue.specs.CatalogueCodes.{code_of}
use Rattle.pool_app.specs.declared.fault.AppError.{AppError}
use Rattle.pool_app.specs.declared.fault.AppError.TheVariants.{File, Ini, Users, Catalogue, Stdin, Stdout, Memory, Port, Totals, AuthFile, NoUserFile}

abbrev pub Text : Type 0
Text = List ℕ

abbrev pub joined : Text → Text → Text
joined first second = first ++ second

abbrev pub line_fault : Text → ℕ → Text
line_fault code line = codes "pgsess: " ++ code ++ codes " line " ++ decimal line

abbrev pub fault_line : AppError → Text
fault_line (File path) = codes "pgsess: file " ++ path.now
fault_line (Ini fault) = line_fault (ini_code fault.cause) fault.line
fault_line (Users fault) = line_fault (users_code fault.cause) fault.line
fault_line (Catalogue fault) = line_fault (code_of fault.cause) fault.line
fault_line Stdin = codes "pgsess: stdin"
fault_line Stdout = codes "pgsess: stdout"
fault_line Memory = codes "pgsess: memory"
fault_line (Port port) = codes "pgsess: port " ++ decimal port
fault_line Totals = codes "pgsess: totals"
fault_line (AuthFile path) = codes "pgsess: file " ++ string_bytes path
fault_line NoUserFile = codes "pgsess: no user file"

-- ---- what the log is told of the files that are read again

abbrev pub fault_in : Text → ℕ → Text → Text
fault_in code line path = code ++ codes " line " ++ decimal line ++ codes " of " ++ path

abbrev pub again_text : Text → Text → AppError → Text
again_text ini users (File path) = codes "file " ++ path.now
again_text ini users (Ini fault) = fault_in (ini_code fault.cause) fault.line ini
again_text ini users (Users fault) = fault_in (users_code fault.cause) fault.line users
again_text ini users (AuthFile path) = codes "file " ++ string_bytes path
again_text ini users NoUserFile = codes "no user file"
again_text ini users other = codes "memory"

-- ---- the status

abbrev pub status : AppError → ℕ
status (Port port) = 3
status NoUserFile = 2
status other = 1
