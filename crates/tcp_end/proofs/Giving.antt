-- Giving the first bytes of what was read ahead.
use Rattle.std.proofs.Common.{◌≡◌, ℕ, ◌≤◌, List, ◌++◌, length, sym, ap, ◌∙◌, take, drop, arith, append_assoc, Option, None, Some}
use Rattle.std.specs.Prelude.{min}
use Rattle.std.proofs.lemmas.List.{length-take, take_all, take-append-le, take-append-drop}
use Rattle.std.specs.Io.KnownBytes.{Consumes}
use Rattle.tcp_end.specs.Reading.{to_come}

-- the first `n` of them, put over the front of a slice, are its first `n`
first : (n : ℕ) (ahead into : List ℕ) → n ≤ length ahead → take n (take n ahead ++ drop n into) ≡ take n ahead
first n ahead into fits =
    let long : length (take n ahead) ≡ n = omega (arith, length-take n ahead, fits) in
    take-append-le n (take n ahead) (drop n into) (omega (arith, long)) ∙ take_all n (take n ahead) (omega (arith, long))

-- what was ahead of the rest is what is given, and what is left ahead of it
pub given : (n room : ℕ) (ahead into new : List ℕ) (rest : Option (List ℕ)) → n ≡ min (length ahead) room → new ≡ take n ahead ++ drop n into → Consumes (to_come ahead rest) (to_come (drop n ahead) rest) (take n new)
given n room ahead into new None m e = tt
given n room ahead into new (Some xs) m e =
    ap (λ (l : List ℕ). l ++ xs) (sym (take-append-drop n ahead))
    ∙ (append_assoc (take n ahead) (drop n ahead) xs
    ∙ ap (λ (l : List ℕ). l ++ (drop n ahead ++ xs)) (sym (ap (λ (l : List ℕ). take n l) e ∙ first n ahead into (omega (arith, m)))))
