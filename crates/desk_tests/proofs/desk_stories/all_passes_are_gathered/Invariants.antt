use Rattle.desk_tallies.specs.Shares.{names_of, parts_of}
use Rattle.desk_tests.proofs.desk_stories.all_passes_are_gathered.Given as goal

abbrev pub ghosts-gathers : goal.ghosts-gathers
ghosts-gathers g a = record { names = names_of a.blanks; parts = parts_of a.blanks }
