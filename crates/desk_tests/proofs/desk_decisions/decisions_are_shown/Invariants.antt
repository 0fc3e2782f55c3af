use Rattle.desk_tallies.specs.Shares.{names_of, parts_of}
use Rattle.desk_tests.proofs.desk_decisions.decisions_are_shown.Given as goal

abbrev pub ghosts-seen_behind : goal.ghosts-seen_behind
ghosts-seen_behind g a = record { names = names_of a.blanks; parts = parts_of a.blanks }
