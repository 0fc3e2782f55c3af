-- Every fault of a settings file: each line is judged after the lines above it that have none.
use Rattle.std.specs.Prelude.{ℕ, ◌+◌, List, [], ◌∷◌, Option, Some, None}
use Rattle.text_lines.specs.Files.{Line}
use Rattle.ini_config.specs.Reading as ini
use Rattle.ini_config.specs.declared.faults.IniCause.{IniCause}
use Rattle.ini_config.specs.declared.lines.Section.{Section}
use Rattle.ini_config.specs.declared.reading.Reading.{Reading}
use Rattle.settings_check.specs.declared.faults.FaultyLine.{FaultyLine}

-- a fault, the number of its line, the section that the line stands in, and the line itself, trimmed
pub record Faulty : Type 0 where
  pub cause : IniCause
  pub number : ℕ
  pub section : Section
  pub text : Line

abbrev pub faulty : IniCause → ℕ → Section → Line → Faulty
faulty cause number section text = record { cause = cause; number = number; section = section; text = text }

-- what was read after a line: a faulty one adds nothing
abbrev pub after : Reading → Line → Option IniCause → Reading
after reading line None = ini.with_line reading line
after reading line (Some cause) = reading

abbrev pub with_fault : ℕ → Section → Line → Option IniCause → List Faulty → List Faulty
with_fault n section line None later = later
with_fault n section line (Some cause) later = faulty cause n section line ∷ later

-- those of some lines, the first of which has this number, after what was read above them
abbrev pub faults_from : Reading → ℕ → List Line → List Faulty
faults_from reading n [] = []
faults_from reading n (line ∷ lines) =
    with_fault n reading.section line (ini.fault_of reading line) (faults_from (after reading line (ini.fault_of reading line)) (n + 1) lines)

abbrev pub faults : List Line → List Faulty
faults lines = faults_from ini.empty_file 1 lines

-- the same of what was found
abbrev pub found : FaultyLine → Faulty
found f = faulty f.cause f.number f.section f.text.now
