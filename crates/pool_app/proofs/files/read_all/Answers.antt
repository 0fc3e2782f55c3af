use Rattle.std.proofs.Common.{rules, ◌≡◌, ◌<◌, ◌≤◌, ◌+◌, ◌++◌, ℕ, List, [], length, take, IfSome, Option, Some, None, arith, ◌∙◌}
use Rattle.std.proofs.lemmas.List.{length-take, take_all}
use Rattle.std.specs.Prelude.{option_map}
use Rattle.pool_app.proofs.files.read_all.Goals as goal

-- fewer bytes than the limit are all of the bytes
whole : (r : Option (List ℕ)) (n : ℕ) (items : List ℕ) → length items < n → IfSome (option_map (take n) r) (λ xs. items ≡ [] ++ xs) → IfSome r (λ xs. items ≡ xs)
whole None n items few h = tt
whole (Some xs) n items few h =
    let short : length (take n xs) < n = rw (← h) few in
    let below : length xs ≤ n = omega (arith, length-take n xs, short) in
    h ∙ take_all n xs below

pub returns-clause-all : goal.returns-clause-all
returns-clause-all g c =
    whole (g.R.Read.remaining c.args.input) (c.args.most + 1) c.read_to_end.new.buf.items (search rules) (search rules)
