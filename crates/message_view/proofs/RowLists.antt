-- Lists that the writers of rows go along.
use Rattle.std.proofs.Common.{◌≡◌, ℕ, ◌*◌, List, [], ◌∷◌, length, map, refl, ap, arith}
use Rattle.std.specs.List.{flat_map}
use Rattle.message_view.specs.declared.row_writers.Column.{Column}
use Rattle.message_view.specs.Bodies.{int32, text_columns}
use Rattle.message_view.specs.Parts.{names_of, formats_of, text_column_of}

pub length_numbers : (ns : List ℕ) → length (flat_map int32 ns) ≡ 4 * length ns
length_numbers [] = refl
length_numbers (n ∷ ns) = omega (arith, length_numbers ns)

pub text_columns_of : (cs : List Column) → text_columns (names_of cs) (formats_of cs) ≡ map text_column_of cs
text_columns_of [] = refl
text_columns_of (c ∷ cs) = ap (λ xs. text_column_of c ∷ xs) (text_columns_of cs)
