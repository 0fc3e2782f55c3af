use Rattle.std.specs.Arc.{arc_value}
use Rattle.desk_tallies.specs.Shares.{names_of, parts_of}
use Rattle.pool_tests.proofs.turns.a_link_comes_back_as_it_was.Given as goal

abbrev pub ghosts-both-N-Naming : goal.ghosts-both-N-Naming
ghosts-both-N-Naming g a = record { catalogue = λ address. arc_value a.catalogue }

abbrev pub ghosts-both-K-Ledgers : goal.ghosts-both-K-Ledgers
ghosts-both-K-Ledgers g a = record { names = names_of a.blanks; parts = parts_of a.blanks }
