-- What the code's tokens are.
use Rattle.std.specs.Prelude.{◌≡◌, ℕ, ◌≤◌, List, [], ◌∷◌, Option, Some, None, Result, Ok, Err, length}
use Rattle.std.specs.Borrow.{Bor}
use Rattle.mini_sql.specs.Words.{Text}
use Rattle.mini_sql.specs.Tokens as spec
use Rattle.mini_sql.specs.Tokens.{token_at, after_token, tokens, unquoted}
use Rattle.mini_sql.specs.declared.SqlError.{SqlError}
use Rattle.mini_sql.specs.declared.token.Token.{Token}
use Rattle.mini_sql.specs.declared.token.Token.TheVariants.{Name, Literal, Digits, Parameter, Sign}

abbrev pub token_of : Token → spec.Token
token_of (Name n) = spec.Name n.now
token_of (Literal l) = spec.Literal (unquoted l.quoted.now)
token_of (Digits n) = spec.Digits n.now
token_of (Parameter n) = spec.Parameter n
token_of (Sign s) = spec.Sign s

-- the token at the front of a text that begins with one, and how many bytes it takes
abbrev pub front : Text → Option (spec.Token × ℕ)
front [] = None
front (b ∷ rest) = token_at b rest

abbrev pub IsFront : Option (Token × ℕ) → Text → Type 0
IsFront None text = front text ≡ None
IsFront (Some p) text = (front text ≡ Some (token_of p.0, p.1)) × (1 ≤ p.1) × (p.1 ≤ length text)

-- the first of these tokens and what follows it, or that there is none, or that the text is no list of tokens
abbrev pub IsFirst : (Text → Option (List spec.Token)) → Result (Option (Token × Bor Text)) SqlError → Option (List spec.Token) → Type 0
IsFirst list (Ok None) read = read ≡ Some []
IsFirst list (Ok (Some p)) read = read ≡ after_token (token_of p.0) (list p.1.now)
IsFirst list (Err e) read = read ≡ None
