-- The table of keys.
use Rattle.std.proofs.Common.{◌≡◌, ℕ, Bool, true, false, cond, List, [], ◌∷◌, Option, Some, refl, bytes_eq}
use Rattle.std.specs.Prelude.{map, option_map}
use Rattle.std.specs.Borrow.{Bor}
use Rattle.std.specs.List.{find}
use Rattle.ini_config.specs.declared.option_keys.Key.{Key}

abbrev pub Borrowed : Type 0
Borrowed = Bor (List ℕ) × Key

abbrev pub Entry : Type 0
Entry = List ℕ × Key

abbrev pub key_at : Option Entry → Option Key
key_at found = option_map (λ (e : Entry). e.1) found

abbrev pub key_at_borrowed : Option Borrowed → Option Key
key_at_borrowed found = option_map (λ (e : Borrowed). e.1) found

abbrev pub texts_of : List Borrowed → List Entry
texts_of table = map (λ (e : Borrowed). (e.0.now, e.1)) table

-- a look-up by a text that is borrowed finds what one by the text finds
pub find-texts : (name : List ℕ) (table : List Borrowed)
    → key_at_borrowed (find (λ e. bytes_eq e.0.now name) table) ≡ key_at (find (λ e. bytes_eq e.0 name) (texts_of table))
find-texts name [] = refl
find-texts name (e ∷ table) = by (bytes_eq e.0.now name) (find-texts name table)
  where
    by : (b : Bool) → key_at_borrowed (find (λ e. bytes_eq e.0.now name) table) ≡ key_at (find (λ e. bytes_eq e.0 name) (texts_of table))
        → key_at_borrowed (cond b (Some e) (find (λ e. bytes_eq e.0.now name) table)) ≡ key_at (cond b (Some (e.0.now, e.1)) (find (λ e. bytes_eq e.0 name) (texts_of table)))
    by true rest = refl
    by false rest = rest
