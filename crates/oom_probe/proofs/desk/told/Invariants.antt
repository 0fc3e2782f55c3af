use Rattle.std.specs.Arc.{arc_value}
use Rattle.desk_tallies.specs.Shares.{names_of, parts_of}
use Rattle.oom_probe.proofs.desk.told.Given as goal

abbrev pub ghosts-put_desk-N-Naming : goal.ghosts-put_desk-N-Naming
ghosts-put_desk-N-Naming g a = record { catalogue = λ address. arc_value a.catalogue }

abbrev pub ghosts-put_desk-K-Ledgers : goal.ghosts-put_desk-K-Ledgers
ghosts-put_desk-K-Ledgers g a = record { names = names_of a.blanks; parts = parts_of a.blanks }
