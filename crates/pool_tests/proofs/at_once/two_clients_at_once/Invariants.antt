use Rattle.std.specs.Arc.{arc_value}
use Rattle.desk_tallies.specs.Shares.{names_of, parts_of}
use Rattle.pool_tests.proofs.at_once.two_clients_at_once.Given as goal

abbrev pub ghosts-at_once-N-Naming : goal.ghosts-at_once-N-Naming
ghosts-at_once-N-Naming g a = record { catalogue = λ address. arc_value a.catalogue }

abbrev pub ghosts-at_once-K-Ledgers : goal.ghosts-at_once-K-Ledgers
ghosts-at_once-K-Ledgers g a = record { names = names_of a.blanks; parts = parts_of a.blanks }
