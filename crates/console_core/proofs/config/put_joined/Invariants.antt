use Rattle.std.proofs.Common.{◌≡◌, ◌++◌, drop}
use Rattle.std.specs.List.{flat_map}
use Rattle.console_core.specs.Config.{behind_comma, joined}
use Rattle.console_core.proofs.config.put_joined.Given as goal

abbrev pub invariant-loop-name : goal.invariant-loop-name
invariant-loop-name l = l.text.items ++ flat_map behind_comma (drop l.name-index l.others) ≡ l.fn.text.items ++ joined l.fn.names
