-- The value of digits.
use Rattle.std.proofs.Common.{◌≡◌, ℕ, suc, ap, ◌+◌, ◌-◌, ◌*◌, ◌<◌, ◌≤◌, [], ◌∷◌, length, get_or, drop, arith, sym, ◌∙◌, false, drop-cons}
use Rattle.std.specs.Prelude.{nat_le}
use Rattle.std.proofs.lemmas.Bool.{lt-leb}
use Rattle.mini_sql.specs.Words.{Text}
use Rattle.session_values.specs.Parameters.{digits_value, digits_value_from}

-- digits that follow make no number smaller
from_low : (n : ℕ) (ds : Text) → n ≤ digits_value_from n ds
from_low n [] = omega arith
from_low n (d ∷ ds) = let h = from_low (10 * n + (d - 48)) ds in omega (arith, h)

above : (m x y high : ℕ) → m ≤ x → x ≡ y → high < m → high < y
above m x y high a b c = omega (arith, a, b, c)

-- a number that is above the bound before all digits were read stays above it
pub passed_bound : (ds : Text) (i n m high : ℕ) → i < length ds → digits_value_from n (drop i ds) ≡ digits_value ds → m ≡ 10 * n + (get_or ds i 0 - 48) → high < m → nat_le (digits_value ds) high ≡ false
passed_bound ds i n m high lt so_far is higher =
    let here = drop-cons ds i 0 lt in
    let all : digits_value_from (10 * n + (get_or ds i 0 - 48)) (drop (suc i) ds) ≡ digits_value ds = ap (digits_value_from n) (sym here) ∙ so_far in
    let low = from_low (10 * n + (get_or ds i 0 - 48)) (drop (suc i) ds) in
    lt-leb (digits_value ds) high (above (10 * n + (get_or ds i 0 - 48)) _ _ high low all (omega (arith, is, higher)))
