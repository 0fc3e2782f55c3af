use Rattle.std.specs.Arc.{arc_value}
use Rattle.desk_tallies.specs.Shares.{names_of, parts_of}
use Rattle.pool_tests.proofs.cancels.goes_as_told.Given as goal

abbrev pub ghosts-departure_from-N-Naming : goal.ghosts-departure_from-N-Naming
ghosts-departure_from-N-Naming g a = record { catalogue = λ address. arc_value a.catalogue }

abbrev pub ghosts-departure_from-K-Ledgers : goal.ghosts-departure_from-K-Ledgers
ghosts-departure_from-K-Ledgers g a = record { names = names_of a.blanks; parts = parts_of a.blanks }
