use Rattle.desk_tallies.specs.Shares.{names_of, parts_of}
use Rattle.serving_parts.proofs.unasked.is_told_unasked.Given as goal

abbrev pub ghosts-is_told_unasked_over : goal.ghosts-is_told_unasked_over
ghosts-is_told_unasked_over g a = record { names = names_of a.blanks; parts = parts_of a.blanks }
