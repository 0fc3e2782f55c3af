-- The lines of a user file (PgBouncer manual, "Authentication file format").
use Rattle.std.specs.Prelude.{ℕ, List, [], ◌∷◌, ◌++◌, ◌==◌, ◌||◌, if◌then◌else◌, length, Option, Some, None, option_map, option_and_then}
use Rattle.bstr.specs.Trim.{trim_start_by}
use Rattle.text_lines.specs.Lines.{is_blank}
use Rattle.user_file.specs.declared.fields.FieldBytes.{FieldBytes}

infixl 10 ◌>>=◌
abbrev pub ◌>>=◌ : {A B : Type 0} → Option A → (A → Option B) → Option B
o >>= f = option_and_then f o

abbrev pub after : List ℕ → Option (List ℕ × List ℕ) → Option (List ℕ × List ℕ)
after front found = option_map (λ p. (front ++ p.0, p.1)) found

-- the text up to the closing quote, and what follows it: a quote closes unless another one follows
unfoldable pub quoted : List ℕ → Option (List ℕ × List ℕ)
quoted [] = None
quoted (b ∷ []) = if b == 34 then Some ([], []) else None
quoted (b ∷ c ∷ bs) =
    if b == 34 then (if c == 34 then after (b ∷ c ∷ []) (quoted bs) else Some ([], c ∷ bs))
    else after (b ∷ []) (quoted (c ∷ bs))

-- a field begins with a quote
abbrev pub field : List ℕ → Option (List ℕ × List ℕ)
field [] = None
field (b ∷ bs) = if b == 34 then quoted bs else None

abbrev pub without_blanks : List ℕ → List ℕ
without_blanks text = trim_start_by is_blank text

-- a name that isn't empty, spaces or tabs, and a secret; the rest is ignored
unfoldable pub fields : List ℕ → Option (List ℕ × List ℕ)
fields line = do
  name ← field line
  secret ← (if length name.0 == 0 || length (without_blanks name.1) == length name.1 then None else field (without_blanks name.1))
  Some (name.0, secret.0)

-- the text of a field, in which each quote was doubled
abbrev pub unquoted : List ℕ → List ℕ
unquoted [] = []
unquoted (b ∷ []) = b ∷ []
unquoted (b ∷ c ∷ bs) = if b == 34 then b ∷ unquoted bs else b ∷ unquoted (c ∷ bs)

-- the bytes of a field's text that are still to come
abbrev pub bytes_left : FieldBytes → List ℕ
bytes_left b = unquoted b.rest.now
