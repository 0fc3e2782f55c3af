-- Texts and what they spell, by the definitions alone.
use Rattle.std.specs.Prelude.{◌≡◌, [], ◌∷◌, Some, None, refl, codes}
use Rattle.mini_sql.specs.Tokens.{tokens_after, literal_length, unquoted}
use Rattle.mini_sql.specs.Statements.{statement, phrase, read, of_tokens, less_semicolon, ends, pass, take_value, either, block, assignment, set_name, set, reset, show, discard, definition_list, create, drop_table, value_list, insert, where_of, end_of, from_of, select, take_columns, take_operands, at_most_64, columns_at, with_item, items, definitions, Empty, Set, SetLocal, Create, Insert, Select, Declare, Fetch, CloseCursor, rows_of, declare, fetch, close, Constant, Placeholder, Null}

empty : statement (codes " ; ") ≡ Some Empty
unfolding statement read of_tokens less_semicolon ends pass take_value either block assignment set_name set reset show discard definition_list create drop_table value_list insert where_of end_of from_of select take_columns take_operands at_most_64 columns_at with_item phrase tokens_after
empty = refl

two_semicolons : statement (codes ";;") ≡ None
unfolding statement read of_tokens less_semicolon ends pass take_value either block assignment set_name set reset show discard definition_list create drop_table value_list insert where_of end_of from_of select take_columns take_operands at_most_64 columns_at with_item phrase tokens_after
two_semicolons = refl

select_from : statement (codes "SELECT from FROM T where C='it''s';") ≡ Some (Select (codes "from" ∷ []) (codes "t") (Some (record { column = codes "c"; to = Constant (codes "it's") })))
unfolding statement read of_tokens less_semicolon ends pass take_value either block assignment set_name set reset show discard definition_list create drop_table value_list insert where_of end_of from_of select take_columns take_operands at_most_64 columns_at with_item phrase tokens_after items literal_length unquoted
select_from = refl

create_table : statement (codes "create TEMP table t(a text,B TEXT)") ≡ Some (Create (codes "t") (codes "a" ∷ codes "b" ∷ []))
unfolding statement read of_tokens less_semicolon ends pass take_value either block assignment set_name set reset show discard definition_list create drop_table value_list insert where_of end_of from_of select take_columns take_operands at_most_64 columns_at with_item phrase tokens_after definitions
create_table = refl

insert_values : statement (codes "INSERT INTO t VALUES($1,NULL,'')") ≡ Some (Insert (codes "t") (Placeholder 1 ∷ Null ∷ Constant [] ∷ []))
unfolding statement read of_tokens less_semicolon ends pass take_value either block assignment set_name set reset show discard definition_list create drop_table value_list insert where_of end_of from_of select take_columns take_operands at_most_64 columns_at with_item phrase tokens_after items literal_length unquoted
insert_values = refl

leading_zero : statement (codes "INSERT INTO t VALUES($01)") ≡ None
unfolding statement read of_tokens less_semicolon ends pass take_value either block assignment set_name set reset show discard definition_list create drop_table value_list insert where_of end_of from_of select take_columns take_operands at_most_64 columns_at with_item phrase tokens_after items
leading_zero = refl

session_word : statement (codes "SET SESSION TO -5") ≡ Some (Set (codes "SESSION") (Some (codes "-5")))
unfolding statement read of_tokens less_semicolon ends pass take_value either block assignment set_name set reset show discard definition_list create drop_table value_list insert where_of end_of from_of select take_columns take_operands at_most_64 columns_at with_item phrase tokens_after
session_word = refl

session_name : statement (codes "SET SESSION TimeZone = UTC") ≡ Some (Set (codes "TimeZone") (Some (codes "utc")))
unfolding statement read of_tokens less_semicolon ends pass take_value either block assignment set_name set reset show discard definition_list create drop_table value_list insert where_of end_of from_of select take_columns take_operands at_most_64 columns_at with_item phrase tokens_after
session_name = refl

by_default : statement (codes "SET TimeZone TO Default") ≡ Some (Set (codes "TimeZone") None)
unfolding statement read of_tokens less_semicolon ends pass take_value either block assignment set_name set reset show discard definition_list create drop_table value_list insert where_of end_of from_of select take_columns take_operands at_most_64 columns_at with_item phrase tokens_after
by_default = refl

local_name : statement (codes "SET LOCAL TimeZone = UTC") ≡ Some (SetLocal (codes "TimeZone") (Some (codes "utc")))
unfolding statement read of_tokens less_semicolon ends pass take_value either block assignment set_name set reset show discard definition_list create drop_table value_list insert where_of end_of from_of select take_columns take_operands at_most_64 columns_at with_item phrase tokens_after
local_name = refl

local_word : statement (codes "SET LOCAL TO 'x'") ≡ Some (Set (codes "LOCAL") (Some (codes "x")))
unfolding statement read of_tokens less_semicolon ends pass take_value either block assignment set_name set reset show discard definition_list create drop_table value_list insert where_of end_of from_of select take_columns take_operands at_most_64 columns_at with_item phrase tokens_after literal_length unquoted
local_word = refl

declared : statement (codes "declare K cursor with hold for select name from city;") ≡ Some (Declare (codes "k") (codes "name" ∷ []) (codes "city") None)
unfolding statement read of_tokens less_semicolon ends pass take_value either block assignment set_name set reset show discard definition_list create drop_table value_list insert where_of end_of from_of select take_columns take_operands at_most_64 columns_at with_item phrase tokens_after items rows_of declare
declared = refl

declared_with_a_parameter : statement (codes "DECLARE k CURSOR WITH HOLD FOR SELECT * FROM city WHERE name = $1") ≡ None
unfolding statement read of_tokens less_semicolon ends pass take_value either block assignment set_name set reset show discard definition_list create drop_table value_list insert where_of end_of from_of select take_columns take_operands at_most_64 columns_at with_item phrase tokens_after rows_of declare
declared_with_a_parameter = refl

fetched : statement (codes "FETCH 02FROM k") ≡ Some (Fetch (Some 2) (codes "k"))
unfolding statement read of_tokens less_semicolon ends pass take_value either block assignment set_name set reset show discard definition_list create drop_table value_list insert where_of end_of from_of select take_columns take_operands at_most_64 columns_at with_item phrase tokens_after fetch
fetched = refl

all_fetched : statement (codes "fetch ALL from K") ≡ Some (Fetch None (codes "k"))
unfolding statement read of_tokens less_semicolon ends pass take_value either block assignment set_name set reset show discard definition_list create drop_table value_list insert where_of end_of from_of select take_columns take_operands at_most_64 columns_at with_item phrase tokens_after fetch
all_fetched = refl

none_fetched : statement (codes "FETCH 0 FROM k") ≡ None
unfolding statement read of_tokens less_semicolon ends pass take_value either block assignment set_name set reset show discard definition_list create drop_table value_list insert where_of end_of from_of select take_columns take_operands at_most_64 columns_at with_item phrase tokens_after fetch
none_fetched = refl

too_many_fetched : statement (codes "FETCH 2147483648 FROM k") ≡ None
unfolding statement read of_tokens less_semicolon ends pass take_value either block assignment set_name set reset show discard definition_list create drop_table value_list insert where_of end_of from_of select take_columns take_operands at_most_64 columns_at with_item phrase tokens_after fetch
too_many_fetched = refl

backwards : statement (codes "FETCH -1 FROM k") ≡ None
unfolding statement read of_tokens less_semicolon ends pass take_value either block assignment set_name set reset show discard definition_list create drop_table value_list insert where_of end_of from_of select take_columns take_operands at_most_64 columns_at with_item phrase tokens_after fetch
backwards = refl

closed : statement (codes "CLOSE k") ≡ Some (CloseCursor (codes "k"))
unfolding statement read of_tokens less_semicolon ends pass take_value either block assignment set_name set reset show discard definition_list create drop_table value_list insert where_of end_of from_of select take_columns take_operands at_most_64 columns_at with_item phrase tokens_after close
closed = refl
