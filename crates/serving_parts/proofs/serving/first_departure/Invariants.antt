use Rattle.desk_tallies.specs.Shares.{names_of, parts_of}
use Rattle.serving_parts.proofs.serving.first_departure.Given as goal

abbrev pub ghosts-departure_from : goal.ghosts-departure_from
ghosts-departure_from g a = record { names = names_of a.blanks; parts = parts_of a.blanks }
