use Rattle.std.proofs.Common.{rules, ℕ, ◌≡◌, ◌≤◌, None, sym, subst, ◌∙◌}
use Rattle.std.specs.Prelude.{count_by}
use Rattle.book_model.specs.Book.{Book, is_link}
use Rattle.book_register.proofs.Returns.{hung_up_gone, nobody_hung_up}
use Rattle.book_register.proofs.Takes.{one_idle}
use Rattle.book_register.proofs.book_state.BookState.hangs_up.Goals as goal

pub take_out-requires : goal.take_out-requires
take_out-requires c = let P : Book → Type 0 = λ b. (n : ℕ) → count_by (is_link n) b.idle ≤ 1 in record { once = subst P (sym c.self.view_is) (one_idle _ _ _ c.requires.kept.links) }

pub returns-in_default : goal.returns-in_default
returns-in_default c =
    let none : c.take_out.result ≡ None = search rules in
    nobody_hung_up _ c.args.self.now c.args.number _ c.self.view_is (sym c.take_out.ensures.link ∙ none) c.take_out.ensures.rest

pub returns : goal.returns
returns c = hung_up_gone _ c.args.self.now c.args.number c.in-Some.link _ c.self.view_is (sym c.take_out.ensures.link ∙ c.in-Some.is) c.take_out.ensures.rest
