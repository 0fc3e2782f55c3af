-- What a line of the settings file says (PgBouncer manual, "Configuration file format").
use Rattle.std.specs.Prelude.{ℕ, List, ◌&&◌, if◌then◌else◌, nat_eq, Option, Some, None, bytes_eq, codes}
use Rattle.std.specs.List.{starts_with, ends_with}
use Rattle.text_lines.specs.Lines.{trimmed, is_ignored}
pub use Rattle.ini_config.specs.Values.{split_at_first}
use Rattle.ini_config.specs.declared.lines.Section.{Section}
use Rattle.ini_config.specs.declared.lines.Section.TheVariants.{Databases, Pgbouncer, Users, Peers}
use Rattle.ini_config.specs.declared.lines.Line.{Line}
use Rattle.ini_config.specs.declared.lines.Line.TheVariants.{Ignored, Header, UnknownHeader, Pair, Other}

pub data Said : Type 0 where
  Nothing : Said
  Opens : Section → Said
  OpensUnknown : Said
  Gives : List ℕ → List ℕ → Said
  Unreadable : Said

abbrev pub header_of : List ℕ → Option Section
header_of line =
    if bytes_eq line (codes "[databases]") then Some Databases else (
    if bytes_eq line (codes "[pgbouncer]") then Some Pgbouncer else (
    if bytes_eq line (codes "[users]") then Some Users else (
    if bytes_eq line (codes "[peers]") then Some Peers else None)))

-- a key and a value, parted by the first equals sign
abbrev pub pair_said : Option (List ℕ × List ℕ) → Said
pair_said None = Unreadable
pair_said (Some p) = Gives (trimmed p.0) (trimmed p.1)

-- a header of a section, any other text in brackets, or a key and a value
abbrev pub header_said : Option Section → List ℕ → Said
header_said (Some section) line = Opens section
header_said None line =
    if starts_with nat_eq line (codes "[") && ends_with nat_eq line (codes "]") then OpensUnknown
    else pair_said (split_at_first 61 line)

unfoldable pub said : List ℕ → Said
said line = if is_ignored line then Nothing else header_said (header_of line) line

-- the same of a line that was read
abbrev pub said_of : Line → Said
said_of Ignored = Nothing
said_of (Header section) = Opens section
said_of UnknownHeader = OpensUnknown
said_of (Pair key value) = Gives key.now value.now
said_of Other = Unreadable
