use Rattle.std.proofs.Common.{◌≡◌, drop, bytes_eq}
use Rattle.std.specs.List.{find}
use Rattle.ini_config.proofs.option_keys.find_key.Given as goal

abbrev pub invariant-loop-text : goal.invariant-loop-text
invariant-loop-text l = find (λ e. bytes_eq e.0.now l.name) (drop l.text-index l.table) ≡ find (λ e. bytes_eq e.0.now l.name) l.table
