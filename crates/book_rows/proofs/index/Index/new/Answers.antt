use Rattle.book_rows.proofs.index.Index.new.Goals as goal

pub returns : goal.returns
returns c = c.in_ok-counts.ensures.items_if_clones_equal (λ y same. same)
