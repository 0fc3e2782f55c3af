-- Laws of the grammar.
use Rattle.std.specs.Prelude.{◌≡◌, List, Some}
use Rattle.mini_sql.specs.Words.{Text}
use Rattle.mini_sql.specs.Tokens.{Token, tokens}
use Rattle.mini_sql.specs.Statements.{Statement, statement, without_semicolon}
use Rattle.mini_sql.specs.Grammar.{Derives}

-- A text's statement is derived from its tokens, less one last semicolon.
abbrev pub StatementIsDerived : Type 0
StatementIsDerived = (t : Text) (s : Statement) → statement t ≡ Some s → (ts : List Token) × (tokens t ≡ Some ts) × Derives (without_semicolon ts) s

-- What is derived from a text's tokens, less one last semicolon, is its statement.
abbrev pub DerivedIsStatement : Type 0
DerivedIsStatement = (t : Text) (s : Statement) (ts : List Token) → tokens t ≡ Some ts → Derives (without_semicolon ts) s → statement t ≡ Some s

-- Tokens spell one statement at most.
abbrev pub DerivesOne : Type 0
DerivesOne = (ts : List Token) (r s : Statement) → Derives ts r → Derives ts s → r ≡ s
