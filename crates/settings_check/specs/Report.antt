-- The lines of a report: every fault, what is read over, and what differs from PgBouncer.
use Rattle.std.specs.Prelude.{ℕ, Bool, List, [], ◌∷◌, ◌++◌, map, codes, decimal}
use Rattle.text_lines.specs.Lines.{lines, raw_lines}
use Rattle.ini_config.specs.Lines.{said}
use Rattle.log_lines.specs.Shown.{Text, quoted, shown_text}
use Rattle.user_file.specs.declared.faults.UserCause.{UserCause}
use Rattle.user_file.specs.declared.faults.UserCause.TheVariants.{BadQuoting, NameTwice, Memory}
use Rattle.settings_check.specs.declared.report.UserFile.{UserFile}
use Rattle.settings_check.specs.declared.report.UserFile.TheVariants.{Read, Unread, Unnamed}
use Rattle.settings_check.specs.Codes.{ini_code}
use Rattle.settings_check.specs.Faults as ini
use Rattle.settings_check.specs.Notices.{notices, differences}
use Rattle.settings_check.specs.Shown.{pair_in}
use Rattle.settings_check.specs.Users as users
use Rattle.settings_check.specs.Words.{words}

-- the file and the line, as a compiler tells them
abbrev pub place : Text → ℕ → Text
place file n = shown_text file ++ codes " line " ++ decimal n ++ codes ": "

abbrev pub ini_line : Text → ini.Faulty → Text
ini_line file f = place file f.number ++ pair_in f.section (said f.text) ++ ini_code f.cause ++ codes ": " ++ words f.cause f.section f.text

-- of a user's line its name alone, and that where it is there twice
abbrev pub user_words : UserCause → Text → Text
user_words NameTwice name = quoted name ++ codes ": U2: given above already"
user_words BadQuoting name = codes "U1: not a name that is not empty and a secret, each in double quotes"
user_words Memory name = []

abbrev pub user_line : Text → users.Faulty → Text
user_line file f = place file f.number ++ user_words f.cause f.name

-- what is said of the whole file
abbrev pub notice_line : Text → Text → Text
notice_line file notice = shown_text file ++ codes ": " ++ notice

abbrev pub difference_line : Text → Text → Text
difference_line file difference = shown_text file ++ codes ": unlike PgBouncer: " ++ difference

abbrev pub ini_faults : Text → Text → List Text
ini_faults file text = map (ini_line file) (ini.faults (lines text))

abbrev pub user_faults : Text → Text → List Text
user_faults file text = map (user_line file) (users.faults (raw_lines text))

abbrev pub remarks : Bool → Text → Text → List Text
remarks uses_auth_file file text =
    map (notice_line file) (notices uses_auth_file (lines text)) ++ map (difference_line file) (differences (lines text))

-- ---- the whole report

-- the users' file: read, not to be read, or named by nobody
abbrev pub faults_of_users : UserFile → List Text
faults_of_users (Read path text) = user_faults path.now text.now
faults_of_users (Unread path) = notice_line path.now (codes "the user file can't be read") ∷ []
faults_of_users Unnamed = codes "no user file: neither --users nor auth_file names one" ∷ []

abbrev pub all_faults : Text → Text → UserFile → List Text
all_faults file text users = ini_faults file text ++ faults_of_users users

abbrev pub report : Text → Text → UserFile → Bool → List Text
report file text users uses_auth_file = all_faults file text users ++ remarks uses_auth_file file text
