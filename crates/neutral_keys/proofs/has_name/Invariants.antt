use Rattle.std.proofs.Common.{◌≡◌, drop, bytes_eq}
use Rattle.std.specs.List.{list_any}
use Rattle.neutral_keys.proofs.has_name.Given as goal

abbrev pub invariant-loop-key : goal.invariant-loop-key
invariant-loop-key l = list_any (λ k. bytes_eq k.now l.name) (drop l.key-index l.list) ≡ list_any (λ k. bytes_eq k.now l.name) l.list
