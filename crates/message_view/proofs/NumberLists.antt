-- Lists of numbers of one size.
use Rattle.std.proofs.Common.{◌≡◌, ℕ, zero, suc, ◌+◌, ◌*◌, ◌<◌, ◌≤◌, List, length, drop, Ok, Err, refl, ◌∙◌, ap, Bool, true, false, arith, length-drop}
use Rattle.std.specs.Prelude.{is_ok, nat_lt}
use Rattle.std.proofs.lemmas.Bool.{ltb-true, ltb-false}
use Rattle.std.proofs.lemmas.List.{drop-drop}
use Rattle.byteorder.specs.Endian.{big_number}
use Rattle.message_view.specs.declared.ViewError.TheVariants.{TooShort}
use Rattle.message_view.specs.Reading.{Part, rest_of, items_of, list_at, int16_at, int32_at}
use Rattle.message_view.proofs.Counted.{list_ends, list_goes_on, list_breaks, list_found, list_there, list_fault}
use Rattle.message_view.proofs.Ints.{int16_at_whole, int16_at_short, int32_at_whole, int32_at_short}

module _ (size : ℕ) (item : List ℕ → Part ℕ) (whole : (bytes : List ℕ) → size ≤ length bytes → item bytes ≡ Ok (big_number size bytes, drop size bytes))
    (short : (bytes : List ℕ) → length bytes < size → item bytes ≡ Err TooShort) where
  rest-there : (n : ℕ) (bytes : List ℕ) → n * size ≤ length bytes → rest_of (list_at item n bytes) ≡ Ok (drop (n * size) bytes)
  rest-there zero bytes h = let none : 0 * size ≡ 0 = omega arith in list_ends item 0 bytes refl ∙ rw none refl
  rest-there (suc n) bytes h =
      let one_more : suc n * size ≡ size + n * size = omega arith in
      list_goes_on item (suc n) n bytes (drop size bytes) (big_number size bytes) refl (whole bytes (omega (arith, h, one_more)))
      ∙ rest-there n (drop size bytes) (omega (arith, h, one_more, length-drop size bytes)) ∙ rw one_more (ap Ok (drop-drop (n * size) size bytes))

  rest-short : (n : ℕ) (bytes : List ℕ) → length bytes < n * size → rest_of (list_at item n bytes) ≡ Err TooShort
  rest-short zero bytes h = absurd (let none : 0 * size ≡ 0 = omega arith in omega (arith, h, none))
  rest-short (suc n) bytes h =
      let one_more : suc n * size ≡ size + n * size = omega arith in
      by_first (nat_lt (length bytes) size) refl (λ l. rest-short n (drop size bytes) (omega (arith, h, l, one_more, length-drop size bytes)))
    where
      by_first : (b : Bool) → nat_lt (length bytes) size ≡ b → (size ≤ length bytes → rest_of (list_at item n (drop size bytes)) ≡ Err TooShort) → rest_of (list_at item (suc n) bytes) ≡ Err TooShort
      by_first true e more = list_breaks item (suc n) bytes TooShort (omega arith) (short bytes (ltb-true _ _ e))
      by_first false e more = list_goes_on item (suc n) n bytes (drop size bytes) (big_number size bytes) refl (whole bytes (ltb-false _ _ e)) ∙ more (ltb-false _ _ e)

  there : (n : ℕ) (bytes : List ℕ) → n * size ≤ length bytes → list_at item n bytes ≡ Ok (items_of (list_at item n bytes), drop (n * size) bytes)
  there n bytes h = list_found item n bytes _ (rest-there n bytes h)

  are-ok : (n : ℕ) (bytes : List ℕ) → n * size ≤ length bytes → is_ok (list_at item n bytes) ≡ true
  are-ok n bytes h = list_there item n bytes _ (rest-there n bytes h)

  lacking : (n : ℕ) (bytes : List ℕ) → length bytes < n * size → list_at item n bytes ≡ Err TooShort
  lacking n bytes h = list_fault item n bytes TooShort (rest-short n bytes h)

pub codes_there : (n : ℕ) (bytes : List ℕ) → n * 2 ≤ length bytes → list_at int16_at n bytes ≡ Ok (items_of (list_at int16_at n bytes), drop (n * 2) bytes)
codes_there = there 2 int16_at int16_at_whole int16_at_short

pub codes_ok : (n : ℕ) (bytes : List ℕ) → n * 2 ≤ length bytes → is_ok (list_at int16_at n bytes) ≡ true
codes_ok = are-ok 2 int16_at int16_at_whole int16_at_short

pub codes_short : (n : ℕ) (bytes : List ℕ) → length bytes < n * 2 → list_at int16_at n bytes ≡ Err TooShort
codes_short = lacking 2 int16_at int16_at_whole int16_at_short

pub oids_there : (n : ℕ) (bytes : List ℕ) → n * 4 ≤ length bytes → list_at int32_at n bytes ≡ Ok (items_of (list_at int32_at n bytes), drop (n * 4) bytes)
oids_there = there 4 int32_at int32_at_whole int32_at_short

pub oids_ok : (n : ℕ) (bytes : List ℕ) → n * 4 ≤ length bytes → is_ok (list_at int32_at n bytes) ≡ true
oids_ok = are-ok 4 int32_at int32_at_whole int32_at_short

pub oids_short : (n : ℕ) (bytes : List ℕ) → length bytes < n * 4 → list_at int32_at n bytes ≡ Err TooShort
oids_short = lacking 4 int32_at int32_at_whole int32_at_short
