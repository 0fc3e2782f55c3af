use Rattle.std.proofs.Common.{◌++◌, List, ℕ, replicate, drop, length, ap, ◌∙◌}
use Rattle.std.proofs.lemmas.List.{drop-replicate}
use Rattle.scram.proofs.hmac_key.filled.Goals as goal

pub returns : goal.returns
returns c =
    ap (λ (t : List ℕ). t ++ drop (length c.args.key.now) (replicate 64 0)) c.copy_from_slice.ensures.after
    ∙ ap (λ (t : List ℕ). c.args.key.now ++ t) (drop-replicate (length c.args.key.now) 64 0)
