-- What is written one behind the other.
use Rattle.std.proofs.Common.{◌≡◌, ℕ, List, [], ◌++◌, sym, ap, ◌∙◌, append_assoc, append-nil}

pub three_parts : (old l m n x y z : List ℕ) → l ≡ old ++ x → m ≡ l ++ y → n ≡ m ++ z → n ≡ old ++ (x ++ (y ++ (z ++ [])))
three_parts old l m n x y z e f g =
    g
    ∙ (ap (λ (v : List ℕ). v ++ z) (f ∙ ap (λ (v : List ℕ). v ++ y) e)
    ∙ (append_assoc (old ++ x) y z ∙ (append_assoc old x (y ++ z) ∙ ap (λ (v : List ℕ). old ++ (x ++ (y ++ v))) (sym (append-nil z)))))
