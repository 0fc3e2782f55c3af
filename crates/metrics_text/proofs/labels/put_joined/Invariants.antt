use Rattle.std.proofs.Common.{◌≡◌, ◌++◌, drop, map}
use Rattle.std.specs.List.{flat_map}
use Rattle.metrics_text.specs.Labels.{behind_comma, joined}
use Rattle.metrics_text.specs.Views.{label_view}
use Rattle.metrics_text.proofs.labels.put_joined.Given as goal

abbrev pub invariant-loop-name : goal.invariant-loop-name
invariant-loop-name l = l.text.items ++ flat_map behind_comma (map label_view (drop l.name-index l.others)) ≡ l.fn.text.items ++ joined (map label_view l.fn.labels)
