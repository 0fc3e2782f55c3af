use Rattle.std.proofs.Common.{◌≡◌, ◌&&◌, drop, bytes_eq}
use Rattle.std.specs.List.{list_any}
use Rattle.neutral_keys.proofs.has_pair.Given as goal

abbrev pub invariant-loop-key : goal.invariant-loop-key
invariant-loop-key l =
    list_any (λ e. bytes_eq e.0.now l.name && bytes_eq e.1.now l.value) (drop l.key-index l.table)
    ≡ list_any (λ e. bytes_eq e.0.now l.name && bytes_eq e.1.now l.value) l.table
