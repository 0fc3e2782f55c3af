-- The commands of the console (PgBouncer manual, "Admin console"): the name of an action; SHOW and the name of a table; WAIT_CLOSE, with a database's name or
-- without one. The case of ASCII letters doesn't count but in that name, white space may stand before and behind each word, and one semicolon may end the
-- command.
use Rattle.std.specs.Prelude.{Bool, true, ℕ, not, List, [], ◌∷◌, length, drop, take_while, find, Option, Some, None, option_map, if◌then◌else◌, ◌==◌, ◌&&◌, ◌||◌, codes}
use Rattle.std.specs.List.{list_all}
use Rattle.mini_sql.specs.Words.{Text, is_in_name, is_white, same_word}
use Rattle.console_core.specs.declared.commands.Action.{Action}
use Rattle.console_core.specs.declared.commands.Action.TheVariants.{Pause, Resume, Reload, Reconnect, Shutdown}
use Rattle.console_core.specs.declared.commands.Table.{Table}
use Rattle.console_core.specs.declared.commands.Table.TheVariants.{Pools, Clients, Servers, Config, Version, Totals}

pub data CommandOf : Type 0 where
  Act : Action → CommandOf
  Show : Table → CommandOf
  -- an answer, once no link of this database is stale; once none at all is, where none is named
  Await : (database : Option Text) → CommandOf

-- ---- the names

-- what a command of an action is called, and its tag
abbrev pub tag : Action → Text
tag Pause = codes "PAUSE"
tag Resume = codes "RESUME"
tag Reload = codes "RELOAD"
tag Reconnect = codes "RECONNECT"
tag Shutdown = codes "SHUTDOWN"

abbrev pub name : Table → Text
name Pools = codes "POOLS"
name Clients = codes "CLIENTS"
name Servers = codes "SERVERS"
name Config = codes "CONFIG"
name Version = codes "VERSION"
name Totals = codes "TOTALS"

abbrev pub actions : List Action
actions = Pause ∷ Resume ∷ Reload ∷ Reconnect ∷ Shutdown ∷ []

abbrev pub tables : List Table
tables = Pools ∷ Clients ∷ Servers ∷ Config ∷ Version ∷ Totals ∷ []

-- what WAIT_CLOSE is called, and its tag
abbrev pub awaiting : Text
awaiting = codes "WAIT_CLOSE"

abbrev pub action_named : Text → Option Action
action_named word = find (λ a. same_word word (tag a)) actions

abbrev pub table_named : Text → Option Table
table_named word = find (λ t. same_word word (name t)) tables

-- PgBouncer's ways to shut down, both of which are the way of SHUTDOWN here
abbrev pub is_way_to_end : Text → Bool
is_way_to_end word = same_word word (codes "WAIT_FOR_CLIENTS") || same_word word (codes "WAIT_FOR_SERVERS")

-- ---- the words of a text

-- what follows the white space at the front
abbrev pub unspaced : Text → Text
unspaced text = drop (length (take_while is_white text)) text

-- the first word, and what follows it
abbrev pub word : Text → Text
word text = take_while is_in_name (unspaced text)

abbrev pub behind : Text → Text
behind text = drop (length (word text)) (unspaced text)

abbrev pub is_semicolon_if_any : Text → Bool
is_semicolon_if_any [] = true
is_semicolon_if_any (b ∷ rest) = b == 59 && list_all is_white rest

-- nothing is there but white space, and one semicolon at most
abbrev pub is_end : Text → Bool
is_end text = is_semicolon_if_any (unspaced text)

-- ---- the one name of a database in a text

-- up to white space or a semicolon
abbrev pub is_plain : ℕ → Bool
is_plain b = not (is_white b || b == 59)

-- up to the next quotation mark
abbrev pub is_quoted : ℕ → Bool
is_quoted b = not (b == 34)

abbrev pub ends_after : Text → Text → Option Text
ends_after name rest = if is_end rest then Some name else None

-- behind the last byte of a name between quotation marks: the mark, and the end
abbrev pub closes_after : Text → Text → Option Text
closes_after name [] = None
closes_after name (mark ∷ rest) = ends_after name rest

abbrev pub plain_name : Text → Option Text
plain_name text = ends_after (take_while is_plain text) (drop (length (take_while is_plain text)) text)

abbrev pub quoted_name : Text → Option Text
quoted_name text = closes_after (take_while is_quoted text) (drop (length (take_while is_quoted text)) text)

-- between quotation marks, or without any before it
abbrev pub only_name : Text → Option Text
only_name [] = None
only_name (b ∷ rest) = if b == 34 then quoted_name rest else plain_name (b ∷ rest)

-- ---- the command of a text

-- one word
abbrev pub alone : Text → Option CommandOf
alone word = if same_word word awaiting then Some (Await None) else option_map Act (action_named word)

abbrev pub shown : Text → Option CommandOf
shown rest = if is_end (behind rest) then option_map Show (table_named (word rest)) else None

abbrev pub shut_down : Text → Option CommandOf
shut_down rest = if is_end (behind rest) && is_way_to_end (word rest) then Some (Act Shutdown) else None

abbrev pub awaited : Text → Option CommandOf
awaited rest = option_map (λ name. Await (Some name)) (only_name (unspaced rest))

-- a word, and what follows it
abbrev pub followed : Text → Text → Option CommandOf
followed first rest =
    if same_word first (codes "SHOW") then shown rest else (
    if same_word first (codes "SHUTDOWN") then shut_down rest else (
    if same_word first awaiting then awaited rest else None))

unfoldable pub command_of : Text → Option CommandOf
command_of text = if is_end (behind text) then alone (word text) else followed (word text) (behind text)
