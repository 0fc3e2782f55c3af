use Rattle.std.proofs.Common.{◌-◌, length}
use Rattle.user_file.proofs.Quotes.{IsSearched}
use Rattle.user_file.proofs.fields.quoted.Given as goal

abbrev pub invariant-loop-at : goal.invariant-loop-at
invariant-loop-at l = IsSearched l.text l.at

abbrev pub decreases-loop-at : goal.decreases-loop-at
decreases-loop-at l = length l.text - l.at
