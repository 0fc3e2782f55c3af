-- The law of labels. It is the whole contract of a function of src/laws.rt.
use Rattle.std.specs.Prelude.{◌≡◌, ℕ, Bool, true, List, map, nat_lt}
use Rattle.std.specs.List.{list_all}
use Rattle.log_lines.specs.Shown.{Text}
use Rattle.metrics_text.specs.Labels.{labels_text}

abbrev pub is_byte : ℕ → Bool
is_byte b = nat_lt b 256

abbrev pub have_bytes : List (Text × Text) → Bool
have_bytes labels = list_all (λ l. list_all is_byte l.1) labels

abbrev pub names_of : List (Text × Text) → List Text
names_of labels = map (λ l. l.0) labels

-- The text tells the values: who has labels of these names can't be taken for another.
abbrev pub LabelsTell : Type 0
LabelsTell =
    (left right : List (Text × Text)) → have_bytes left ≡ true → have_bytes right ≡ true → names_of left ≡ names_of right
    → labels_text left ≡ labels_text right → left ≡ right
