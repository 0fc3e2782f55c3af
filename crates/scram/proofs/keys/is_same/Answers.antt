use Rattle.std.proofs.Common.{◌≡◌, ◌≤◌, ◌^◌, ◌%◌, List, ℕ, Bool, length, ap, ◌∙◌, rules, nat_eq}
use Rattle.std.specs.Int.{w8}
use Rattle.std.specs.Simd.Lanes.{mask_l, zip2}
use Rattle.std.proofs.lemmas.Simd.{length-zip2, mask_l-mod, tops_compared}
use Rattle.scram.proofs.Differences.{differ, none_differs, not_not}
use Rattle.scram.proofs.keys.is_same.Goals as goal

pub returns : goal.returns
returns c =
    let left : List ℕ = c.args.left.now in
    let right : List ℕ = c.args.right.now in
    let as_many : length left ≡ length right = search rules in
    let long : length left ≤ 64 = search rules in
    let many : length (zip2 differ left right) ≤ 64 = rw (length-zip2 differ left right as_many) long in
    let seen = ap (λ (ms : List Bool). mask_l ms % 2 ^ 64) (tops_compared w8 differ left right) ∙ mask_l-mod (zip2 differ left right) 64 many in
    not_not _ ∙ ap (λ (n : ℕ). nat_eq n 0) seen ∙ none_differs left right as_many
