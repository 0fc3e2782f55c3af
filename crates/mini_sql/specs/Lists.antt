-- Lists that stand in a text.
use Rattle.std.specs.Prelude.{◌≡◌, List, [], ◌∷◌, Option, Some, None, Bool, if◌then◌else◌, Result, MatchResult, MatchOption}
use Rattle.std.specs.Borrow.{Bor}
use Rattle.mini_sql.specs.Words.{Text}
use Rattle.mini_sql.specs.Tokens.{Token, Sign, after_token, comma}
use Rattle.mini_sql.specs.Statements.{phrase, read, items, columns_at, operand_of, Operand, is_sign, with_item}
use Rattle.mini_sql.specs.Reading.{passed}
use Rattle.mini_sql.specs.declared.SqlError.{SqlError}

-- a list of items before the tokens after it
abbrev pub Listing : Type 0 → Type 0
Listing A = Option (List A × List Token)

abbrev pub items_of : {A : Type 0} → Listing A → List A
items_of None = []
items_of (Some p) = p.0

abbrev pub rest_of : {A : Type 0} → Listing A → Option (List Token)
rest_of None = None
rest_of (Some p) = Some p.1

-- the list from a text's front on; none once it is at its end
abbrev pub listing_from : {A : Type 0} → (List Token → Listing A) → Option (Bor Text) → Listing A
listing_from list None = Some ([], [])
listing_from list (Some text) = read list (phrase text.now)

abbrev pub columns_from : Bool → Option (Bor Text) → Listing Text
columns_from typed rest = listing_from (columns_at typed) rest

abbrev pub operands_from : Option (Bor Text) → Listing Operand
operands_from rest = listing_from (items operand_of) rest

-- the text goes on after a comma, or the list is at its end
abbrev pub GoesOn : Option (Bor Text) → Option (List Token) → Type 0
GoesOn next tokens = MatchOption next (passed (is_sign comma) tokens ≡ None) (λ rest. tokens ≡ after_token (Sign comma) (phrase rest.now))

-- the items after a comma, or none
abbrev pub more : {A : Type 0} → (List Token → Listing A) → Option (List Token) → Listing A
more list None = None
more list (Some []) = Some ([], [])
more list (Some (t ∷ ts)) = if is_sign comma t then list ts else Some ([], t ∷ ts)

-- the first item is this, and what follows it goes on with the list
abbrev pub IsItem : {C A : Type 0} → (C → A) → (List Token → Listing A) → Result (C × Bor Text) SqlError → Option (List Token) → Type 0
IsItem view list result tokens =
    MatchResult result (λ p. read list tokens ≡ with_item (Some (view p.0)) (more list (phrase p.1.now))) (λ e. read list tokens ≡ None)
