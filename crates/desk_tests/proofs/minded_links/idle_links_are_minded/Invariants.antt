use Rattle.desk_tallies.specs.Shares.{names_of, parts_of}
use Rattle.desk_tests.proofs.minded_links.idle_links_are_minded.Given as goal

abbrev pub ghosts-departure : goal.ghosts-departure
ghosts-departure g a = record { names = names_of a.blanks; parts = parts_of a.blanks }
