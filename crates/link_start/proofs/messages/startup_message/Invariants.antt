use Rattle.std.proofs.Common.{◌≡◌, ◌++◌, drop}
use Rattle.message_view.specs.Parts.{pairs_of}
use Rattle.key_laws.specs.Keys.{key_pairs}
use Rattle.link_start.proofs.messages.startup_message.Given as goal

abbrev pub invariant-loop-name : goal.invariant-loop-name
invariant-loop-name l = record { so_far : pairs_of l.pairs.items ++ drop l.name-index l.key.parameters ≡ key_pairs l.key }
