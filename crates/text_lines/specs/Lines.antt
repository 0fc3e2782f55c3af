-- The lines of a settings or user file (PgBouncer manual, "Configuration file format").
use Rattle.std.specs.Prelude.{ℕ, Bool, List, map, length, slice_index, ◌==◌, ◌||◌}
use Rattle.bstr.specs.Text.{lines_of, without_terminator}
use Rattle.bstr.specs.Trim.{trim_start_by, trim_end_by}

-- a space or a tab
abbrev pub is_blank : ℕ → Bool
is_blank c = c == 32 || c == 9

-- the text without spaces and tabs at either end
abbrev pub trimmed : List ℕ → List ℕ
trimmed text = trim_end_by is_blank (trim_start_by is_blank text)

-- each line ends with LF or CR LF, or with the text
abbrev pub raw_lines : List ℕ → List (List ℕ)
raw_lines text = map without_terminator (lines_of text)

-- the lines as they are read
abbrev pub lines : List ℕ → List (List ℕ)
lines text = map trimmed (raw_lines text)

-- an empty line, or one that begins with a semicolon or a hash
abbrev pub is_ignored : List ℕ → Bool
is_ignored line = length line == 0 || slice_index line 0 == 59 || slice_index line 0 == 35
