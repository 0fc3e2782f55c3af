use Rattle.desk_tallies.specs.Shares.{names_of, parts_of}
use Rattle.pool_run.proofs.pool.serve_on.Given as goal

abbrev pub ghosts-serve_all : goal.ghosts-serve_all
ghosts-serve_all g a = record { names = names_of a.blanks; parts = parts_of a.blanks }
