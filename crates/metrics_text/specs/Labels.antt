-- Labels (OpenMetrics 1.0, "Label" and "Escaping"). Their values are texts of others, shown as the log shows them, with nothing cut off.
use Rattle.std.specs.Prelude.{ℕ, ◌/◌, Bool, ◌==◌, ◌&&◌, not, List, [], ◌∷◌, ◌++◌, if◌then◌else◌}
use Rattle.std.specs.List.{flat_map}
use Rattle.log_lines.specs.Shown.{Text, hex_digit, is_printing}

-- a quotation mark behind a backslash; else as the log shows it: what prints as it is, but for a backslash; the others as \xNN, whose backslash is told by two
abbrev pub value_byte : ℕ → Text
value_byte b =
    if b == 34 then 92 ∷ 34 ∷ [] else (
    if is_printing b && not (b == 92) then b ∷ [] else 92 ∷ 92 ∷ 120 ∷ hex_digit (b / 16) ∷ hex_digit b ∷ [])

abbrev pub value_text : Text → Text
value_text value = flat_map value_byte value

-- a name, and a value between quotation marks
abbrev pub label_text : Text × Text → Text
label_text l = l.0 ++ 61 ∷ 34 ∷ value_text l.1 ++ 34 ∷ []

abbrev pub behind_comma : Text × Text → Text
behind_comma l = 44 ∷ label_text l

-- with commas between
abbrev pub joined : List (Text × Text) → Text
joined [] = []
joined (l ∷ labels) = label_text l ++ flat_map behind_comma labels

-- between braces
abbrev pub labels_text : List (Text × Text) → Text
labels_text labels = 123 ∷ joined labels ++ 125 ∷ []
