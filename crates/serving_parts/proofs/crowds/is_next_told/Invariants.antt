use Rattle.desk_tallies.specs.Shares.{names_of, parts_of}
use Rattle.serving_parts.proofs.crowds.is_next_told.Given as goal

abbrev pub ghosts-is_next_told_over : goal.ghosts-is_next_told_over
ghosts-is_next_told_over g a = record { names = names_of a.blanks; parts = parts_of a.blanks }
