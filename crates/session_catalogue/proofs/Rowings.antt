-- A row more for the last table.
use Rattle.std.proofs.Common.{◌≡◌, suc, ◌-◌, List, [], ◌∷◌, length, slice_set, Some, false, sym, ap, ◌∙◌, arith}
use Rattle.std.specs.Prelude.{slice_get}
use Rattle.session_values.specs.State.{TableOf, Row}
use Rattle.session_catalogue.specs.Catalogues.{PartsOf, last_of}
use Rattle.session_catalogue.specs.Drafts.{with_row, with_last_row}

pub last_later : (a b : TableOf) (ts : List TableOf) → last_of (a ∷ b ∷ ts) ≡ last_of (b ∷ ts)
last_later a b ts =
    let n : suc (suc (length ts)) - 1 ≡ suc (length ts) = omega arith in
    let m : suc (length ts) - 1 ≡ length ts = omega arith in
    ap (slice_get (a ∷ b ∷ ts)) n ∙ sym (ap (slice_get (b ∷ ts)) m)

pub last_row : (ts : List TableOf) (t : TableOf) (vs : Row) → last_of ts ≡ Some t → slice_set ts (length ts - 1) (with_row t vs) ≡ with_last_row ts vs
last_row [] t vs is = absurd (cc)
last_row (a ∷ []) t vs is = let same : a ≡ t = cc in ap (λ x. with_row x vs ∷ []) (sym same)
last_row (a ∷ b ∷ ts) t vs is =
    let n : suc (suc (length ts)) - 1 ≡ suc (length ts) = omega arith in
    let m : suc (length ts) - 1 ≡ length ts = omega arith in
    ap (λ k. slice_set (a ∷ b ∷ ts) k (with_row t vs)) n
    ∙ ap (λ k. a ∷ slice_set (b ∷ ts) k (with_row t vs)) (sym m)
    ∙ ap (λ x. a ∷ x) (last_row (b ∷ ts) t vs (sym (last_later a b ts) ∙ is))

-- the parts with a row more
abbrev pub rowed : PartsOf → List TableOf → PartsOf
rowed p ts = record p { untouched = false; tables = ts }
