use Rattle.std.proofs.Common.{sym, ap, ◌∙◌, subst, arith}
use Rattle.book_model.specs.Book.{Book}
use Rattle.desk_tallies.specs.Passes.{Made}
use Rattle.desk_tallies.specs.Shares.{of_each, sum_of}
use Rattle.pool_desk.specs.Classes.{class_counts}
use Rattle.pool_desk.specs.Joined.{AreAtHome}
use Rattle.pool_desk.proofs.inner.Core.new.Goals as goal

pub invariant_of-result : goal.invariant_of-result
invariant_of-result g c = record {
  kept = c.in_ok-book.ensures.kept;
  counted = ap (λ (b : Book). class_counts b.counts) c.in_ok-book.ensures.lists ∙ sym c.open-tallies.ensures.none;
  at_home = subst (AreAtHome g.S.Outside.home) (sym c.in_ok-book.ensures.idle) tt;
  parts = ap (λ (p : Made). sum_of p (of_each 0)) c.open-tallies.ensures.parts;
  some_left = omega (arith);
  none_made = c.open-tallies.ensures.amounts;
}
