use Rattle.std.proofs.Common.{rules}
use Rattle.user_file.proofs.Quotes.{searched-plain, searched-doubled}
use Rattle.user_file.proofs.fields.quoted.Goals as goal

pub loop-at-preserved-then-text-at-eq34 : goal.loop-at-preserved-then-text-at-eq34
loop-at-preserved-then-text-at-eq34 c =
    searched-doubled c.args.text.now c.loop-at.at c.loop-at.invariant c.loop-at-test.true (search rules) (search rules) (search rules)

pub loop-at-preserved : goal.loop-at-preserved
loop-at-preserved c = searched-plain c.args.text.now c.loop-at.at c.loop-at.invariant c.loop-at-test.true (search rules)
