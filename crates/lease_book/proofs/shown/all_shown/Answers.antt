use Rattle.std.proofs.Common.{◌≡◌, ℕ, suc, ◌+◌, List, Some, None, vec_len, map, take, slice_get, ap, sym, ◌∙◌, arith}
use Rattle.std.specs.Option.{option_copied}
use Rattle.book_model.specs.Replay.{Decision}
use Rattle.lease_book.specs.Shown.{as_shown, shown_from}
use Rattle.lease_book.proofs.Showing.{all_there, one_more}
use Rattle.lease_book.proofs.shown.all_shown.Goals as goal

pub decisions-preserved : goal.decisions-preserved
decisions-preserved c =
    let base : ℕ = c.args.base in
    let ds : List Decision = c.args.kept.now.items in
    let n : ℕ = vec_len c.decisions.shown in
    let d : Decision = c.in-Some.decision.now in
    let there : slice_get ds n ≡ Some d = ap (slice_get ds) (sym c.len-in-decisions.ensures) ∙ (sym c.get.ensures ∙ ap option_copied c.in-Some.is) in
    let number : base + c.len-in-Some.result + 1 ≡ base + n + 1 = ap (λ (m : ℕ). base + m + 1) c.len-in-Some.ensures in
    let more : map as_shown c.push.new.self.items ≡ shown_from (suc base) (take (suc n) ds) =
    one_more base n (base + c.len-in-Some.result + 1) ds d c.decisions.shown.items c.push.new.self.items c.decision_seen.result there number c.decision_seen.ensures c.in_ok-push.ensures.items c.decisions.invariant in
    let longer : suc n ≡ vec_len c.push.new.self = omega (arith, c.in_ok-push.ensures.len) in
    more ∙ ap (λ (m : ℕ). shown_from (suc base) (take m ds)) longer

pub returns : goal.returns
returns c =
    let ds : List Decision = c.args.kept.now.items in
    let none : slice_get ds (vec_len c.decisions.shown) ≡ None = ap (slice_get ds) (sym c.len-in-decisions.ensures) ∙ (sym c.get.ensures ∙ ap option_copied c.in_default.is) in
    all_there c.args.base (vec_len c.decisions.shown) ds c.decisions.shown.items none c.decisions.invariant
