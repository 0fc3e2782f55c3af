use Rattle.std.proofs.Common.{◌≡◌, ◌++◌, drop}
use Rattle.std.specs.Prelude.{codes}
use Rattle.std.specs.List.{flat_map}
use Rattle.settings_check.proofs.notices.put_others.Given as goal

abbrev pub invariant-loop-name : goal.invariant-loop-name
invariant-loop-name l =
    l.line.items ++ flat_map (λ n. codes ", " ++ n) (drop l.name-index l.names) ≡ l.fn.line.items ++ flat_map (λ n. codes ", " ++ n) l.names
