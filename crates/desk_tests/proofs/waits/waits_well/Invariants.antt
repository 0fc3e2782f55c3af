use Rattle.desk_tallies.specs.Shares.{names_of, parts_of}
use Rattle.desk_tests.proofs.waits.waits_well.Given as goal

abbrev pub ghosts-waits_at : goal.ghosts-waits_at
ghosts-waits_at g a = record { names = names_of a.blanks; parts = parts_of a.blanks }
