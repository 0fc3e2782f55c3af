use Rattle.std.specs.Arc.{arc_value}
use Rattle.desk_tallies.specs.Shares.{names_of, parts_of}
use Rattle.pool_tests.proofs.failures.is_good.Given as goal

abbrev pub ghosts-over_failing_server-N-Naming : goal.ghosts-over_failing_server-N-Naming
ghosts-over_failing_server-N-Naming g a = record { catalogue = λ address. arc_value a.catalogue }

abbrev pub ghosts-over_failing_server-K-Ledgers : goal.ghosts-over_failing_server-K-Ledgers
ghosts-over_failing_server-K-Ledgers g a = record { names = names_of a.blanks; parts = parts_of a.blanks }

abbrev pub ghosts-with_failing_client-N-Naming : goal.ghosts-with_failing_client-N-Naming
ghosts-with_failing_client-N-Naming g a = record { catalogue = λ address. arc_value a.catalogue }

abbrev pub ghosts-with_failing_client-K-Ledgers : goal.ghosts-with_failing_client-K-Ledgers
ghosts-with_failing_client-K-Ledgers g a = record { names = names_of a.blanks; parts = parts_of a.blanks }
