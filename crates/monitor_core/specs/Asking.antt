-- What a text asks of the console beside its own commands (PgBouncer manual, "Admin console").
use Rattle.std.specs.Prelude.{Bool, true, false, List, [], ◌∷◌, ◌++◌, find, Option, Some, None, option_map, if◌then◌else◌, codes}
use Rattle.mini_sql.specs.Words.{Text, same_word}
use Rattle.mini_sql.specs.Statements.{Statement, Set, Show, statement}
use Rattle.session_values.specs.Parameters.{parameter_named}
use Rattle.console_core.specs.Commands as command
use Rattle.console_core.specs.Commands.{CommandOf, command_of}
use Rattle.ini_config.specs.declared.option_values.ConsoleStyle.{ConsoleStyle as Style}
use Rattle.ini_config.specs.declared.option_values.ConsoleStyle.TheVariants.{Own, PgBouncer}
use Rattle.monitor_core.specs.declared.asking.Table.{Table}
use Rattle.monitor_core.specs.declared.asking.Table.TheVariants.{Stats, StatsTotals, StatsAverages, Lists, Databases, State, Activity, Pools, Clients, Servers, Config, Version, Totals, Users, Decisions}
use Rattle.monitor_core.specs.declared.asking.Asked.{Asked}
use Rattle.monitor_core.specs.declared.asking.Asked.TheVariants as its

abbrev pub name : Table → Text
name Stats = codes "STATS"
name StatsTotals = codes "STATS_TOTALS"
name StatsAverages = codes "STATS_AVERAGES"
name Lists = codes "LISTS"
name Databases = codes "DATABASES"
name State = codes "STATE"
name Activity = codes "ACTIVITY"
name Pools = codes "POOLS"
name Clients = codes "CLIENTS"
name Servers = codes "SERVERS"
name Config = codes "CONFIG"
name Version = codes "VERSION"
name Totals = codes "TOTALS"
name Users = codes "USERS"
name Decisions = codes "DECISIONS"

-- what the console hasn't itself
abbrev pub further : List Table
further = Stats ∷ StatsTotals ∷ StatsAverages ∷ Lists ∷ Databases ∷ State ∷ Activity ∷ Users ∷ Decisions ∷ []

abbrev pub tables : Style → List Table
tables Own = further
tables PgBouncer = further ++ Pools ∷ Clients ∷ Servers ∷ Config ∷ Version ∷ Totals ∷ []

abbrev pub table_named : Style → Text → Option Table
table_named style word = find (λ t. same_word word (name t)) (tables style)

-- what SHOW asks for behind this word
abbrev pub shown : Style → Text → Option Asked
shown style word = if same_word word (codes "HELP") then Some its.Help else option_map its.Show (table_named style word)

abbrev pub asked_by : Style → Option Statement → Option Asked
asked_by style (Some (Show word)) = shown style word
asked_by style (Some (Set parameter value)) = option_map (λ p. its.Set) (parameter_named parameter)
asked_by style _ = None

-- What is left to the console: its own commands, whatever the style shows beside them; but in PgBouncer's its actions alone.
abbrev pub is_left : Style → Option CommandOf → Bool
is_left style None = false
is_left style (Some (command.Act a)) = true
is_left style (Some (command.Await database)) = true
is_left Own (Some (command.Show t)) = true
is_left PgBouncer (Some (command.Show t)) = false

-- in PgBouncer's style what nobody answers is told so here; in its own the console says it
abbrev pub or_unknown : Style → Option Asked → Option Asked
or_unknown PgBouncer None = Some its.Unknown
or_unknown style asked = asked

-- what a text asks for that was read as this command or as none
abbrev pub asked_beside : Style → Option CommandOf → Text → Option Asked
asked_beside style command text = if is_left style command then None else or_unknown style (asked_by style (statement text))

abbrev pub asked : Style → Text → Option Asked
asked style text = asked_beside style (command_of text) text
