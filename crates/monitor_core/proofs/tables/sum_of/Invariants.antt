use Rattle.std.proofs.Common.{◌≡◌, drop, fold}
use Rattle.pool_figures.specs.Figures.{none, plus}
use Rattle.monitor_core.proofs.tables.sum_of.Given as goal

abbrev pub invariant-loop-database : goal.invariant-loop-database
invariant-loop-database l = fold (λ f d. plus f d.total) l.sum (drop l.database-index l.databases) ≡ fold (λ f d. plus f d.total) none l.databases
