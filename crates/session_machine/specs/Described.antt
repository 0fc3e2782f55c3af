-- What the code's look-ups find, in the definitions' words.
use Rattle.std.specs.Prelude.{◌≡◌, Result, Ok, Err}
use Rattle.std.specs.Borrow.{Bor}
use Rattle.session_values.specs.declared.cause.Cause.{Cause}
use Rattle.session_values.specs.declared.stop.Stop.{Stop}
use Rattle.session_values.specs.declared.stop.Stop.TheVariants.{Refused, OutOfMemory}
use Rattle.mini_sql.specs.Meanings.{meaning}
use Rattle.session_machine.specs.declared.describe.Described.{Described}
use Rattle.session_values.specs.Extended as spec
use Rattle.session_values.specs.State.{PreparedOf}

-- a prepared statement that is found, or why none is
abbrev pub FindsPrepared : Result (Bor PreparedOf) Stop → Result PreparedOf Cause → Type 0
FindsPrepared (Ok p) wanted = wanted ≡ Ok p.now
FindsPrepared (Err (Refused cause)) wanted = wanted ≡ Err cause
FindsPrepared (Err OutOfMemory) wanted = Unit {0}

abbrev pub described_of : Described → spec.Described
described_of d = record { it = meaning d.statement; columns = d.names }

-- a statement that is described, or why it isn't
abbrev pub FindsDescribed : Result Described Stop → Result spec.Described Cause → Type 0
FindsDescribed (Ok d) wanted = wanted ≡ Ok (described_of d)
FindsDescribed (Err (Refused cause)) wanted = wanted ≡ Err cause
FindsDescribed (Err OutOfMemory) wanted = Unit {0}
