-- The command line of the program, and what its words ask for.
use Rattle.std.specs.Prelude.{◌≡◌, ◌≢◌, ◌⊎◌, ◌<◌, ⊤, pos, ℕ, List, Option, Some, None, option_map, true, codes}
use Rattle.std.specs.Str.Parse.{IsNumeral, digits_value, without_leading_plus}
use Rattle.clap.specs.Takes.{takes}
use Rattle.clap.specs.Values.{kind_of}
use Rattle.clap.specs.Words.{App, Row, Rule, Text, first_of, one_of, new_app, new_rule, subcommand_of, with_rule, with_subcommand}
use Rattle.clap.specs.declared.error.kind.ErrorKind.{ErrorKind}
use Rattle.clap.specs.declared.error.kind.ErrorKind.TheVariants.{DisplayHelp, DisplayVersion, OutOfMemory}
use Rattle.clap.specs.declared.builder.value_parser.ValueParser.TheVariants.{Signed}
use Rattle.pool_app.specs.declared.line.Job.{Job}
use Rattle.pool_app.specs.declared.line.Job.TheVariants.{Replay, Serve, Check, Stub}
use Rattle.pool_app.specs.declared.line.LineError.{LineError}
use Rattle.pool_app.specs.declared.line.LineError.TheVariants.{Refused, NoJob}

-- an option with a value that must be there
abbrev pub needed : Text → Rule
needed name = record (new_rule name) { long = Some name; required = true; value_names = 1 }

-- one that may be left out
abbrev pub optional : Text → Rule
optional name = record (new_rule name) { long = Some name; value_names = 1 }

-- one whose value is a port
abbrev pub port_option : Rule
port_option = record (needed (codes "port")) { parser = Some (Signed (pos 1) (pos 65535)) }

abbrev pub replay : App
replay = new_app (codes "replay")

abbrev pub serve : App
serve = with_rule (with_rule (with_rule (new_app (codes "serve")) (needed (codes "ini"))) (optional (codes "users"))) (optional (codes "key-seed"))

abbrev pub check : App
check = with_rule (with_rule (new_app (codes "check")) (needed (codes "ini"))) (optional (codes "users"))

abbrev pub stub : App
stub = with_rule (with_rule (new_app (codes "stub")) port_option) (needed (codes "catalogue"))

-- a line must name a subcommand, or ask for the version
abbrev pub program : App
program = let app = new_app (codes "pgsess") in record app { top = record app.top { subcommand_required = true; has_version = true } }

-- the whole command line
abbrev pub pgsess : App
pgsess = with_subcommand (with_subcommand (with_subcommand (with_subcommand program replay.top) serve.top) check.top) stub.top

-- the subcommand that was named, with its options
abbrev pub Named : Type 0
Named = Option (Text × List Row)

-- the job is the one that this subcommand names with these options
abbrev pub IsJobBy : Text → List Row → Job → Type 0
IsJobBy name options Replay = name ≡ codes "replay"
IsJobBy name options (Serve ini users key_seed) =
    (name ≡ codes "serve")
    × (first_of (codes "ini") options ≡ Some ini.now) × (first_of (codes "users") options ≡ option_map (λ path. path.now) users)
    × (first_of (codes "key-seed") options ≡ option_map (λ path. path.now) key_seed)
IsJobBy name options (Check ini users) =
    (name ≡ codes "check")
    × (first_of (codes "ini") options ≡ Some ini.now) × (first_of (codes "users") options ≡ option_map (λ path. path.now) users)
IsJobBy name options (Stub port catalogue) =
    (name ≡ codes "stub")
    × ((text : List ℕ) × (one_of (codes "port") options ≡ Some text) × (port ≡ digits_value 10 (without_leading_plus text)))
    × (first_of (codes "catalogue") options ≡ Some catalogue.now)

abbrev pub IsJobOf : Named → Job → Type 0
IsJobOf None job = ⊥
IsJobOf (Some sub) job = IsJobBy sub.0 sub.1 job

-- ---- what asks for none

abbrev pub Lacks : Text → List Row → Type 0
Lacks id options = first_of id options ≡ None

-- the text is no number below 65,536
abbrev pub IsNoPort : Text → Type 0
IsNoPort text = IsNumeral 10 (without_leading_plus text) × (digits_value 10 (without_leading_plus text) < 65536) → ⊥

-- the subcommand is no job, or one of its options isn't there or can't be read
abbrev pub IsNoJob : Text → List Row → Type 0
IsNoJob name options =
    (name ≢ codes "replay")
    × (name ≡ codes "serve" → Lacks (codes "ini") options)
    × (name ≡ codes "check" → Lacks (codes "ini") options)
    × (name ≡ codes "stub" → Lacks (codes "catalogue") options ⊎ ((text : Text) → one_of (codes "port") options ≡ Some text → IsNoPort text))

abbrev pub NamesNone : Named → Type 0
NamesNone None = ⊤
NamesNone (Some sub) = IsNoJob sub.0 sub.1

-- A line is refused where clap doesn't take its words, or memory is refused; or it names no job.
abbrev pub IsFaultOf : List Text → LineError → Type 0
IsFaultOf words (Refused error) = takes pgsess words ≡ true → kind_of error ≡ OutOfMemory
IsFaultOf words NoJob = NamesNone (subcommand_of pgsess words)

-- ---- the status after a line that asks for no job

abbrev pub kind_status : ErrorKind → ℕ
kind_status DisplayHelp = 0
kind_status DisplayVersion = 0
kind_status OutOfMemory = 1
kind_status other = 2

abbrev pub status : LineError → ℕ
status (Refused error) = kind_status (kind_of error)
status NoJob = 2
