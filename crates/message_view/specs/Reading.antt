-- Which parts a body spells, or else the first fault from the left.
use Rattle.std.specs.Prelude.{ℕ, zero, suc, ◌+◌, ◌*◌, List, [], ◌∷◌, length, take, drop, Option, Some, None, Result, Ok, Err, nat_lt, ◌==◌, if◌then◌else◌}
use Rattle.frame_view.specs.Frames.{number}
use Rattle.message_view.specs.declared.ViewError.{ViewError}
use Rattle.message_view.specs.declared.ViewError.TheVariants.{TooShort, NoZero, LeftOver, BadLength}
use Rattle.message_view.specs.declared.Status.{Status}
use Rattle.message_view.specs.declared.Status.TheVariants.{Idle, InTransaction, Failed}
use Rattle.message_view.specs.declared.kinds.TheConstants.{IDLE, IN_TRANSACTION, FAILED, STATEMENT, PORTAL}
use Rattle.message_view.specs.Bodies.{Text, is_natural32, minus_one32, ColumnOf, Parse, Bind, Target, OfStatement, OfPortal}

-- what a reader gives: a part, and the bytes after it
abbrev pub Part : Type 0 → Type 0
Part A = Result (A × List ℕ) ViewError

infixl 10 ◌>>=◌
abbrev pub ◌>>=◌ : {A B : Type 0} → Result A ViewError → (A → Result B ViewError) → Result B ViewError
(Err e) >>= f = Err e
(Ok x) >>= f = f x

-- the bytes after the part
abbrev pub rest_of : {A : Type 0} → Part A → Result (List ℕ) ViewError
rest_of part = part >>= λ x. Ok x.1

abbrev pub with_first : ℕ → Part Text → Part Text
with_first b text = text >>= λ x. Ok (b ∷ x.0, x.1)

-- a text up to its zero byte
unfoldable pub text_at : List ℕ → Part Text
text_at [] = Err NoZero
text_at (b ∷ bytes) = if b == 0 then Ok ([], bytes) else with_first b (text_at bytes)

unfoldable pub int16_at : List ℕ → Part ℕ
int16_at (a ∷ b ∷ bytes) = Ok (a * 256 + b, bytes)
int16_at short = Err TooShort

unfoldable pub int32_at : List ℕ → Part ℕ
int32_at (a ∷ b ∷ c ∷ d ∷ bytes) = Ok (number a b c d, bytes)
int32_at short = Err TooShort

abbrev pub bytes_at : ℕ → List ℕ → Part (Option Text)
bytes_at n bytes = if nat_lt (length bytes) n then Err TooShort else Ok (Some (take n bytes), drop n bytes)

-- -1 is null, and what is below it a fault
abbrev pub value_of_length : ℕ × List ℕ → Part (Option Text)
value_of_length x =
    if is_natural32 x.0 then bytes_at x.0 x.1 else (if x.0 == minus_one32 then Ok (None, x.1) else Err BadLength)

unfoldable pub value_at : List ℕ → Part (Option Text)
value_at bytes = int32_at bytes >>= value_of_length

unfoldable pub column_at : List ℕ → Part ColumnOf
column_at bytes = do
  name ← text_at bytes
  table ← int32_at name.1
  number ← int16_at table.1
  type_oid ← int32_at number.1
  size ← int16_at type_oid.1
  modifier ← int32_at size.1
  format ← int16_at modifier.1
  Ok (record { name = name.0; table = table.0; number = number.0; type_oid = type_oid.0; size = size.0; modifier = modifier.0; format = format.0 }, format.1)

-- ---- lists with a count before them

unfoldable pub list_at : {A : Type 0} → (List ℕ → Part A) → ℕ → List ℕ → Part (List A)
list_at item zero bytes = Ok ([], bytes)
list_at item (suc n) bytes = do
  first ← item bytes
  others ← list_at item n first.1
  Ok (first.0 ∷ others.0, others.1)

-- the list that is there, where one is
abbrev pub items_of : {A : Type 0} → Part (List A) → List A
items_of (Ok x) = x.0
items_of (Err e) = []

abbrev pub counted_at : {A : Type 0} → (List ℕ → Part A) → List ℕ → Part (List A)
counted_at item bytes = do
  n ← int16_at bytes
  list_at item n.0 n.1

-- ---- lists that a zero byte ends

-- an empty name is the zero byte that ends the pairs
abbrev pub pair_named : Text → List ℕ → Part (Option (Text × Text))
pair_named [] bytes = Ok (None, bytes)
pair_named (b ∷ name) bytes = text_at bytes >>= λ setting. Ok (Some (b ∷ name, setting.0), setting.1)

unfoldable pub pair_at : List ℕ → Part (Option (Text × Text))
pair_at bytes = text_at bytes >>= λ name. pair_named name.0 name.1

-- a field of an error or a notice: its code, which is no zero byte, and its text
unfoldable pub field_at : List ℕ → Part (Option (ℕ × Text))
field_at [] = Err TooShort
field_at (b ∷ bytes) = if b == 0 then Ok (None, bytes) else (text_at bytes >>= λ t. Ok (Some (b, t.0), t.1))

abbrev pub and_more : {A : Type 0} → Option A → List ℕ → (List ℕ → Part (List A)) → Part (List A)
and_more None bytes more = Ok ([], bytes)
and_more (Some x) bytes more = more bytes >>= λ others. Ok (x ∷ others.0, others.1)

-- the items up to the end of the list, which are at most n
unfoldable pub list_until : {A : Type 0} → (List ℕ → Part (Option A)) → ℕ → List ℕ → Part (List A)
list_until item zero bytes = Err TooShort
list_until item (suc n) bytes = item bytes >>= λ x. and_more x.0 x.1 (list_until item n)

-- each item takes a byte at least
unfoldable pub ended_at : {A : Type 0} → (List ℕ → Part (Option A)) → List ℕ → Part (List A)
ended_at item bytes = list_until item (suc (length bytes)) bytes

-- ---- bodies

abbrev pub at_end : {A : Type 0} → A → List ℕ → Result A ViewError
at_end x [] = Ok x
at_end x (b ∷ bytes) = Err LeftOver

abbrev pub alone : {A : Type 0} → Part A → Result A ViewError
alone part = part >>= λ x. at_end x.0 x.1

-- what follows the code of a StartupMessage
unfoldable pub startup_of : List ℕ → Result (List (Text × Text)) ViewError
startup_of body = alone (ended_at pair_at body)

unfoldable pub password_of : List ℕ → Result Text ViewError
password_of body = alone (text_at body)

unfoldable pub query_of : List ℕ → Result Text ViewError
query_of body = alone (text_at body)

abbrev pub parse_at : List ℕ → Part Parse
parse_at body = do
  name ← text_at body
  query ← text_at name.1
  oids ← counted_at int32_at query.1
  Ok (record { name = name.0; query = query.0; oids = oids.0 }, oids.1)

unfoldable pub parse_of : List ℕ → Result Parse ViewError
parse_of body = alone (parse_at body)

abbrev pub bind_at : List ℕ → Part Bind
bind_at body = do
  portal ← text_at body
  statement ← text_at portal.1
  formats ← counted_at int16_at statement.1
  given ← counted_at value_at formats.1
  results ← counted_at int16_at given.1
  Ok (record { portal = portal.0; statement = statement.0; formats = formats.0; given = given.0; results = results.0 }, results.1)

unfoldable pub bind_of : List ℕ → Result Bind ViewError
bind_of body = alone (bind_at body)

-- the body of a Describe or a Close: what it is about, and a name
unfoldable pub target_of : List ℕ → Result Target ViewError
target_of [] = Err TooShort
target_of (b ∷ body) =
    if b == STATEMENT then (alone (text_at body) >>= λ t. Ok (OfStatement t))
    else (if b == PORTAL then (alone (text_at body) >>= λ t. Ok (OfPortal t)) else Err TooShort)

abbrev pub execute_at : List ℕ → Part (Text × ℕ)
execute_at body = do
  portal ← text_at body
  limit ← int32_at portal.1
  Ok ((portal.0, limit.0), limit.1)

unfoldable pub execute_of : List ℕ → Result (Text × ℕ) ViewError
execute_of body = alone (execute_at body)

-- the number of an authentication message, and the rest
unfoldable pub authentication_of : List ℕ → Result (ℕ × List ℕ) ViewError
authentication_of body = int32_at body

abbrev pub key_at : List ℕ → Part (ℕ × ℕ)
key_at body = do
  pid ← int32_at body
  secret ← int32_at pid.1
  Ok ((pid.0, secret.0), secret.1)

unfoldable pub key_of : List ℕ → Result (ℕ × ℕ) ViewError
key_of body = alone (key_at body)

abbrev pub status_at : List ℕ → Part (Text × Text)
status_at body = do
  name ← text_at body
  setting ← text_at name.1
  Ok ((name.0, setting.0), setting.1)

unfoldable pub status_of : List ℕ → Result (Text × Text) ViewError
status_of body = alone (status_at body)

abbrev pub status_named : ℕ → Result Status ViewError
status_named b = if b == IDLE then Ok Idle else (if b == IN_TRANSACTION then Ok InTransaction else (if b == FAILED then Ok Failed else Err TooShort))

unfoldable pub ready_of : List ℕ → Result Status ViewError
ready_of [] = Err TooShort
ready_of (b ∷ body) = status_named b >>= λ status. at_end status body

unfoldable pub tag_of : List ℕ → Result Text ViewError
tag_of body = alone (text_at body)

unfoldable pub row_description_of : List ℕ → Result (List ColumnOf) ViewError
row_description_of body = alone (counted_at column_at body)

unfoldable pub data_row_of : List ℕ → Result (List (Option Text)) ViewError
data_row_of body = alone (counted_at value_at body)

-- the fields of an error or a notice
unfoldable pub note_of : List ℕ → Result (List (ℕ × Text)) ViewError
note_of body = alone (ended_at field_at body)
