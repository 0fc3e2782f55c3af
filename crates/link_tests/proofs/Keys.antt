-- The key under test is one of a link.
use Rattle.std.proofs.Common.{◌≡◌, ◌⊎◌, ⊎_elim, ℕ, List, arith, codes, subst, sym}
use Rattle.link_start.specs.Starts.{IsLinkKey}
use Rattle.link_tests.specs.Keys.{ann_on}

shop : IsLinkKey (ann_on (codes "shop"))
shop = (record { lawful = record { row = omega arith; dbname = omega arith; user = omega arith; has_user = omega arith; has_dbname = omega arith; parameters = tt; ordered = tt }; names = tt }, omega arith)

nowhere : IsLinkKey (ann_on (codes "nowhere"))
nowhere = (record { lawful = record { row = omega arith; dbname = omega arith; user = omega arith; has_user = omega arith; has_dbname = omega arith; parameters = tt; ordered = tt }; names = tt }, omega arith)

pub is_link_key : (dbname : List ℕ) → (dbname ≡ codes "shop") ⊎ (dbname ≡ codes "nowhere") → IsLinkKey (ann_on dbname)
is_link_key dbname e = ⊎_elim (λ h. subst (λ (d : List ℕ). IsLinkKey (ann_on d)) (sym h) shop) (λ h. subst (λ (d : List ℕ). IsLinkKey (ann_on d)) (sym h) nowhere) e
