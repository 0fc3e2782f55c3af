-- The status that the program ends with.
use Rattle.std.specs.Prelude.{ℕ, Result, Ok, Err}
use Rattle.pool_app.specs.Faults.{status}
use Rattle.pool_app.specs.declared.fault.AppError.{AppError}
use Rattle.pgsess.specs.declared.Done.{Done}
use Rattle.pgsess.specs.declared.Done.TheVariants.{Well, Faulty}
use Rattle.std.specs.declared.io.ErrorKind.{ErrorKind}
use Rattle.std.specs.declared.io.ErrorKind.TheVariants.{InvalidData}

-- a report that has a fault ends with 1
abbrev pub status_of : Done → ℕ
status_of Well = 0
status_of Faulty = 1

abbrev pub status_after : Result Done AppError → ℕ
status_after (Ok done) = status_of done
status_after (Err fault) = status fault

-- where the words of the command line can't be had: one isn't UTF-8, or memory was refused
abbrev pub status_without_words : ErrorKind → ℕ
status_without_words InvalidData = 2
status_without_words _ = 1
