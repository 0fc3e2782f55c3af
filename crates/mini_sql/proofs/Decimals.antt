-- Numbers that digits spell.
use Rattle.std.proofs.Common.{◌≡◌, ℕ, suc, ap, ◌+◌, ◌-◌, ◌*◌, ◌<◌, ◌≤◌, [], ◌∷◌, length, get_or, drop, arith, sym, ◌∙◌, drop-cons}
use Rattle.mini_sql.specs.Words.{Text}
use Rattle.mini_sql.specs.Statements.{decimal_from}

-- digits that follow make no number smaller
from_low : (n : ℕ) (ds : Text) → n ≤ decimal_from n ds
from_low n [] = omega arith
from_low n (d ∷ ds) = let h = from_low (10 * n + (d - 48)) ds in omega (arith, h)

above : (m x y high : ℕ) → m ≤ x → x ≡ y → high < m → high < y
above m x y high a b c = omega (arith, a, b, c)

-- a number that is above the bound before all digits were read stays above it
pub passed_bound : (ds : Text) (i n m high : ℕ) → i < length ds → decimal_from n (drop i ds) ≡ decimal_from 0 ds → m ≡ 10 * n + (get_or ds i 0 - 48) → high < m → high < decimal_from 0 ds
passed_bound ds i n m high lt so_far is higher =
    let here = drop-cons ds i 0 lt in
    let all : decimal_from (10 * n + (get_or ds i 0 - 48)) (drop (suc i) ds) ≡ decimal_from 0 ds = ap (decimal_from n) (sym here) ∙ so_far in
    let low = from_low (10 * n + (get_or ds i 0 - 48)) (drop (suc i) ds) in
    above (10 * n + (get_or ds i 0 - 48)) _ _ high low all (omega (arith, is, higher))
