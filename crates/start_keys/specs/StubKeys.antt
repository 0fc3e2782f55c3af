-- The start key by which a stand-in server starts a session of its own.
use Rattle.std.specs.Prelude.{codes, List, [], ◌∷◌, length, fold, Result, Ok, Err, Some, ◌==◌, if◌then◌else◌}
use Rattle.session_values.specs.declared.cause.Cause.{Cause}
use Rattle.session_values.specs.declared.cause.Cause.TheVariants.{MalformedMessage}
use Rattle.session_values.specs.Lawful.{is_identity}
use Rattle.session_values.specs.State.{StartKeyOf}
use Rattle.start_keys.specs.StartPairs.{Text, Pair, user_in, database_in, put, folded}

-- every pair but user and database is a parameter: its name is folded, and of equal names the last counts
abbrev pub put_parameter : List Pair → Pair → List Pair
put_parameter kept p = if is_identity p.0 then kept else put (folded p) kept

abbrev pub stub_parameters : List Pair → List Pair
stub_parameters pairs = fold put_parameter [] pairs

-- the row and the database are what is asked for, at this host
abbrev pub stub : Text → Text → List Pair → StartKeyOf
stub database user parameters = record { row = database; host = Some (codes "127.0.0.1"); port = 0; dbname = database; user = user; parameters = parameters }

-- refused without a user
abbrev pub stub_key : List Pair → Result StartKeyOf Cause
stub_key pairs =
    if length (user_in pairs) == 0 then Err MalformedMessage else
    Ok (stub (database_in pairs) (user_in pairs) (stub_parameters pairs))
