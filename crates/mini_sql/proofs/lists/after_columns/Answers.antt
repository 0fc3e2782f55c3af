use Rattle.std.proofs.Common.{◌≡◌, ℕ, arith, subst}
use Rattle.mini_sql.specs.Statements.{columns_at, phrase, read}
use Rattle.mini_sql.proofs.Skipping.{size_of, plus, goes-on, stops, faults, too_many}
use Rattle.mini_sql.proofs.Reading.{follows-err}
use Rattle.mini_sql.proofs.lists.after_columns.Goals as goal

pub returns-in_err-after : goal.returns-in_err-after
returns-in_err-after c = follows-err _ _ c.from_residual.ensures.0 (faults (columns_at c.args.typed) c.loop-count.count _ _ c.loop-count.invariant c.in_err-after.ensures)

pub returns-in-None : goal.returns-in-None
returns-in-None c = stops (columns_at c.args.typed) c.loop-count.count _ _ _ _ c.loop-count-test.true c.loop-count.invariant c.in_ok-after.ensures c.in-None.ensures.read

pub loop-count-preserved : goal.loop-count-preserved
loop-count-preserved c = goes-on (columns_at c.args.typed) c.loop-count.count _ _ _ _ _ c.loop-count.invariant c.in_ok-after.ensures c.in-Some.ensures.read

pub returns : goal.returns
returns c =
    let all : c.loop-count.count ≡ 64 = omega arith in
    let P : ℕ → Type 0 = λ k. size_of (read (columns_at c.args.typed) (phrase c.args.text.now)) ≡ plus k (size_of (read (columns_at c.args.typed) (phrase c.loop-count.rest.now))) in
    too_many c.args.typed _ _ (subst P all c.loop-count.invariant)
