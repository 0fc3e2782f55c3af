-- The tokens of a statement's text (PostgreSQL manual, Lexical Structure; names and signs of this project's own choice). Each is as long as it can be, and white
-- space may stand between any two.
use Rattle.std.specs.Prelude.{ℕ, zero, suc, ◌+◌, ◌-◌, ◌*◌, List, [], ◌∷◌, ◌++◌, length, Option, Some, None, Bool, nat_le, ◌==◌, ◌||◌, if◌then◌else◌, take, take_while}
use Rattle.mini_sql.specs.Words.{Text, is_digit, is_white, starts_name, is_in_name}

pub data Token : Type 0 where
  -- as it stands in the text, in any case
  Name : Text → Token
  -- what it stands for, with each doubled quote undone
  Literal : Text → Token
  -- whole digits, with a minus before them or none
  Digits : Text → Token
  Parameter : ℕ → Token
  -- by its byte
  Sign : ℕ → Token

-- the bytes of the signs
abbrev pub opening : ℕ
opening = 40

abbrev pub closing : ℕ
closing = 41

abbrev pub star : ℕ
star = 42

abbrev pub comma : ℕ
comma = 44

abbrev pub semicolon : ℕ
semicolon = 59

abbrev pub equal : ℕ
equal = 61

abbrev pub quote : ℕ
quote = 39

abbrev pub further : ℕ → Option ℕ → Option ℕ
further n None = None
further n (Some m) = Some (n + m)

-- how many bytes stand before a literal's last quote, the first that isn't doubled; none where a zero byte or the end comes before it
unfoldable pub literal_length : Text → Option ℕ
literal_length [] = None
literal_length (b ∷ []) = if b == quote then Some 0 else None
literal_length (b ∷ c ∷ rest) =
    if b == quote then (if c == quote then further 2 (literal_length rest) else Some 0) else
    (if b == 0 then None else further 1 (literal_length (c ∷ rest)))

-- a text in which each quote was doubled
unfoldable pub unquoted : Text → Text
unquoted [] = []
unquoted (b ∷ []) = b ∷ []
unquoted (b ∷ c ∷ rest) = if b == quote then b ∷ unquoted rest else b ∷ unquoted (c ∷ rest)

-- A token and how many bytes it takes.
abbrev pub literal_token : Text → Option ℕ → Option (Token × ℕ)
literal_token rest None = None
literal_token rest (Some n) = Some (Literal (unquoted (take n rest)), n + 2)

abbrev pub name_token : Text → Option (Token × ℕ)
name_token t = if nat_le (length t) 63 then Some (Name t, length t) else None

abbrev pub digits_token : Text → Text → Option (Token × ℕ)
digits_token sign [] = None
digits_token sign (d ∷ ds) = Some (Digits (sign ++ d ∷ ds), length sign + length (d ∷ ds))

-- 1 to 99, with no zero before them
abbrev pub parameter_token : Text → Option (Token × ℕ)
parameter_token (d ∷ []) = if d == 48 then None else Some (Parameter (d - 48), 2)
parameter_token (d ∷ e ∷ []) = if d == 48 then None else Some (Parameter (10 * (d - 48) + (e - 48)), 3)
parameter_token _ = None

abbrev pub is_sign_byte : ℕ → Bool
is_sign_byte b = b == opening || b == closing || b == star || b == comma || b == semicolon || b == equal

-- the token at a byte that isn't white and what follows it
abbrev pub token_at : ℕ → Text → Option (Token × ℕ)
token_at b rest =
    if starts_name b then name_token (take_while is_in_name (b ∷ rest)) else
    (if is_digit b then digits_token [] (take_while is_digit (b ∷ rest)) else
    (if b == 45 then digits_token (45 ∷ []) (take_while is_digit rest) else
    (if b == 36 then parameter_token (take_while is_digit rest) else
    (if b == quote then literal_token rest (literal_length rest) else
    (if is_sign_byte b then Some (Sign b, 1) else None)))))

abbrev pub after_token : Token → Option (List Token) → Option (List Token)
after_token t None = None
after_token t (Some ts) = Some (t ∷ ts)

abbrev pub token_then : Option (Token × ℕ) → (ℕ → Option (List Token)) → Option (List Token)
token_then None rest = None
token_then (Some x) rest = after_token x.0 (rest (x.1 - 1))

-- The tokens of a text, or none where a byte begins no token. The bytes of a token after its first are passed over.
unfoldable pub tokens_after : ℕ → Text → Option (List Token)
tokens_after passed [] = Some []
tokens_after (suc n) (b ∷ bytes) = tokens_after n bytes
tokens_after zero (b ∷ bytes) = if is_white b then tokens_after 0 bytes else token_then (token_at b bytes) (λ n. tokens_after n bytes)

abbrev pub tokens : Text → Option (List Token)
tokens t = tokens_after 0 t
