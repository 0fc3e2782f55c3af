use Rattle.std.proofs.Common.{◌≡◌, ◌-◌, ◌<◌, ℕ, Bool, true, suc, None, drop, length, get_or, sym, ◌∙◌, subst, arith, rules}
use Rattle.std.specs.Prelude.{find}
use Rattle.book_model.specs.Book.{find_last, is_link}
use Rattle.book_rows.specs.Numbered.{is_of_key}
use Rattle.book_rows.proofs.Lasts.{found_back}
use Rattle.book_rows.proofs.links.last_listed.Goals as goal

pub returns-then-is_of_key_at : goal.returns-then-is_of_key_at
returns-then-is_of_key_at c =
    let numbers = c.args.numbers.now.items in
    let place : ℕ = length numbers - 1 - c.back.behind in
    let test : ℕ → Bool = λ n. is_of_key c.args.key.now (find (is_link n) c.args.rows.now) in
    let within : c.back.behind < length numbers = search (rules, c.back-test.true, c.len-behind-end.ensures) in
    let behind : length numbers - c.back.behind ≡ suc place = omega (arith, within) in
    let none : find_last test (drop (suc place) numbers) ≡ None = subst (λ (k : ℕ). find_last test (drop k numbers) ≡ None) behind c.back.invariant in
    let passes : test c.index-number.result.now ≡ true = sym c.is_of_key_at.ensures ∙ c.if-is_of_key_at.true in
    let many : c.len.result ≡ length numbers = search (rules, c.len.ensures) in
    let there = subst (λ (n : ℕ). c.index-number.result.now ≡ get_or numbers (n - 1 - c.back.behind) c.index-number.result.now) many c.index-number.ensures in
    sym (found_back test numbers place c.index-number.result.now (omega (arith, within)) there passes none)
