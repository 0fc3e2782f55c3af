-- Tokens read one by one, with the rest of the text.
use Rattle.std.specs.Prelude.{◌≡◌, List, [], ◌∷◌, Option, Some, None, Bool, true, false, if◌then◌else◌, Result, MatchResult}
use Rattle.std.specs.Borrow.{Bor}
use Rattle.mini_sql.specs.Words.{Text}
use Rattle.mini_sql.specs.Tokens.{Token}
use Rattle.mini_sql.specs.Statements.{phrase}
use Rattle.mini_sql.specs.declared.SqlError.{SqlError}

-- there is a token
abbrev pub has_token : Option (List Token) → Bool
has_token (Some (t ∷ ts)) = true
has_token _ = false

-- there are tokens, but none
abbrev pub is_end : Option (List Token) → Bool
is_end (Some []) = true
is_end _ = false

-- what follows a first token that passes a test
unfoldable pub passed : (Token → Bool) → Option (List Token) → Option (List Token)
passed test (Some (t ∷ ts)) = if test t then Some ts else None
passed test _ = None

abbrev pub with_value : {A : Type 0} → A → Option (List Token) → Option (A × List Token)
with_value a None = None
with_value a (Some ts) = Some (a, ts)

abbrev pub with_tokens : {A : Type 0} → Option A → List Token → Option (A × List Token)
with_tokens None ts = None
with_tokens (Some a) ts = Some (a, ts)

-- what the first token is read as, and what follows it
unfoldable pub taken : {A : Type 0} → (Token → Option A) → Option (List Token) → Option (A × List Token)
taken value_of (Some (t ∷ ts)) = with_tokens (value_of t) ts
taken value_of _ = None

-- the rest of the text has these tokens
abbrev pub Follows : Result (Bor Text) SqlError → Option (List Token) → Type 0
Follows result tokens = MatchResult result (λ rest. tokens ≡ phrase rest.now) (λ e. tokens ≡ None)

-- the value is this, and the rest of the text has these tokens
abbrev pub Takes : {C A : Type 0} → (C → A) → Result (C × Bor Text) SqlError → Option (A × List Token) → Type 0
Takes view result read = MatchResult result (λ p. read ≡ with_value (view p.0) (phrase p.1.now)) (λ e. read ≡ None)
