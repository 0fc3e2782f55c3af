-- A Bind's parts and a column's, spelled and read again.
use Rattle.std.proofs.Common.{◌≡◌, ℕ, List, ◌++◌, Ok, refl, ap, sym, ◌∙◌, append_assoc}
use Rattle.frame_view.specs.Frames.{AreBytes}
use Rattle.message_view.specs.Bodies.{text, int16, int32, values, numbers16, ColumnOf, column, Bind, bind_body}
use Rattle.message_view.specs.Spelled.{FitsColumn, FitsBind}
use Rattle.message_view.specs.Reading.{text_at, int16_at, int32_at, value_at, column_at, counted_at, bind_at}
use Rattle.message_view.proofs.Pieces.{bind-inv, carry}
use Rattle.message_laws.proofs.Trips.{bytes_behind, text_reads, text_spelled, int16_reads, int16_spelled, int32_reads, int32_spelled}
use Rattle.message_laws.proofs.PartTrips.{codes_read, codes_spelled, values_read, values_spelled}

five : (a b c d e rest : List ℕ) → a ++ b ++ c ++ d ++ e ++ rest ≡ a ++ (b ++ (c ++ (d ++ (e ++ rest))))
five a b c d e rest = simp append_assoc

seven : (a b c d e f g rest : List ℕ) → a ++ b ++ c ++ d ++ e ++ f ++ g ++ rest ≡ a ++ (b ++ (c ++ (d ++ (e ++ (f ++ (g ++ rest))))))
seven a b c d e f g rest = simp append_assoc

pub bind_reads : (b : Bind) (rest : List ℕ) → FitsBind b → bind_at (bind_body b ++ rest) ≡ Ok (b, rest)
bind_reads b rest h =
    ap bind_at (five (text b.portal) (text b.statement) (numbers16 b.formats) (values b.given) (numbers16 b.results) rest)
    ∙ rw (
      text_reads b.portal (text b.statement ++ (numbers16 b.formats ++ (values b.given ++ (numbers16 b.results ++ rest)))) h.portal,
      text_reads b.statement (numbers16 b.formats ++ (values b.given ++ (numbers16 b.results ++ rest))) h.statement,
      codes_read b.formats (values b.given ++ (numbers16 b.results ++ rest)) h.formats,
      values_read b.given (numbers16 b.results ++ rest) h.given,
      codes_read b.results rest h.results,
    ) refl

pub bind_spelled : (bytes : List ℕ) (x : Bind) (rest : List ℕ) → AreBytes bytes → bind_at bytes ≡ Ok (x, rest) → (bytes ≡ bind_body x ++ rest) × FitsBind x
bind_spelled bytes x rest fits e =
    let a = bind-inv (text_at bytes) _ (x, rest) e in
    let b = bind-inv (text_at a.0.1) _ (x, rest) a.2 in
    let c = bind-inv (counted_at int16_at b.0.1) _ (x, rest) b.2 in
    let d = bind-inv (counted_at value_at c.0.1) _ (x, rest) c.2 in
    let f = bind-inv (counted_at int16_at d.0.1) _ (x, rest) d.2 in
    let p = text_spelled bytes a.0.0 a.0.1 a.1 in
    let fits-a = bytes_behind bytes (text a.0.0) a.0.1 p.0 fits in
    let q = text_spelled a.0.1 b.0.0 b.0.1 b.1 in
    let fits-b = bytes_behind a.0.1 (text b.0.0) b.0.1 q.0 fits-a in
    let r = codes_spelled b.0.1 c.0.0 c.0.1 fits-b c.1 in
    let fits-c = bytes_behind b.0.1 (numbers16 c.0.0) c.0.1 r.0 fits-b in
    let s = values_spelled c.0.1 d.0.0 d.0.1 fits-c d.1 in
    let fits-d = bytes_behind c.0.1 (values d.0.0) d.0.1 s.0 fits-c in
    let t = codes_spelled d.0.1 f.0.0 f.0.1 fits-d f.1 in
    let nested = p.0 ∙ ap (λ (z : List ℕ). text a.0.0 ++ z) (q.0 ∙ ap (λ (z : List ℕ). text b.0.0 ++ z) (r.0 ∙ ap (λ (z : List ℕ). numbers16 c.0.0 ++ z) (s.0 ∙ ap (λ (z : List ℕ). values d.0.0 ++ z) t.0))) in
    carry (λ (y : Bind) (z : List ℕ). (bytes ≡ bind_body y ++ z) × FitsBind y)
    (record { portal = a.0.0; statement = b.0.0; formats = c.0.0; given = d.0.0; results = f.0.0 }, f.0.1) (x, rest) f.2
    (nested ∙ sym (five (text a.0.0) (text b.0.0) (numbers16 c.0.0) (values d.0.0) (numbers16 f.0.0) f.0.1), record { portal = p.1; statement = q.1; formats = r.1; given = s.1; results = t.1 })

pub column_reads : (c : ColumnOf) (rest : List ℕ) → FitsColumn c → column_at (column c ++ rest) ≡ Ok (c, rest)
unfolding column_at
column_reads c rest h =
    ap column_at (seven (text c.name) (int32 c.table) (int16 c.number) (int32 c.type_oid) (int16 c.size) (int32 c.modifier) (int16 c.format) rest)
    ∙ rw (
      text_reads c.name (int32 c.table ++ (int16 c.number ++ (int32 c.type_oid ++ (int16 c.size ++ (int32 c.modifier ++ (int16 c.format ++ rest)))))) h.name,
      int32_reads c.table (int16 c.number ++ (int32 c.type_oid ++ (int16 c.size ++ (int32 c.modifier ++ (int16 c.format ++ rest))))) h.table,
      int16_reads c.number (int32 c.type_oid ++ (int16 c.size ++ (int32 c.modifier ++ (int16 c.format ++ rest)))) h.number,
      int32_reads c.type_oid (int16 c.size ++ (int32 c.modifier ++ (int16 c.format ++ rest))) h.type_oid,
      int16_reads c.size (int32 c.modifier ++ (int16 c.format ++ rest)) h.size,
      int32_reads c.modifier (int16 c.format ++ rest) h.modifier,
      int16_reads c.format rest h.format,
    ) refl

pub column_spelled : (bytes : List ℕ) (x : ColumnOf) (rest : List ℕ) → AreBytes bytes → column_at bytes ≡ Ok (x, rest) → (bytes ≡ column x ++ rest) × FitsColumn x
unfolding column_at
column_spelled bytes x rest fits e =
    let a = bind-inv (text_at bytes) _ (x, rest) e in
    let b = bind-inv (int32_at a.0.1) _ (x, rest) a.2 in
    let c = bind-inv (int16_at b.0.1) _ (x, rest) b.2 in
    let d = bind-inv (int32_at c.0.1) _ (x, rest) c.2 in
    let f = bind-inv (int16_at d.0.1) _ (x, rest) d.2 in
    let g = bind-inv (int32_at f.0.1) _ (x, rest) f.2 in
    let h = bind-inv (int16_at g.0.1) _ (x, rest) g.2 in
    let p = text_spelled bytes a.0.0 a.0.1 a.1 in
    let fits-a = bytes_behind bytes (text a.0.0) a.0.1 p.0 fits in
    let q = int32_spelled a.0.1 b.0.0 b.0.1 fits-a b.1 in
    let fits-b = bytes_behind a.0.1 (int32 b.0.0) b.0.1 q.0 fits-a in
    let r = int16_spelled b.0.1 c.0.0 c.0.1 fits-b c.1 in
    let fits-c = bytes_behind b.0.1 (int16 c.0.0) c.0.1 r.0 fits-b in
    let s = int32_spelled c.0.1 d.0.0 d.0.1 fits-c d.1 in
    let fits-d = bytes_behind c.0.1 (int32 d.0.0) d.0.1 s.0 fits-c in
    let t = int16_spelled d.0.1 f.0.0 f.0.1 fits-d f.1 in
    let fits-f = bytes_behind d.0.1 (int16 f.0.0) f.0.1 t.0 fits-d in
    let u = int32_spelled f.0.1 g.0.0 g.0.1 fits-f g.1 in
    let fits-g = bytes_behind f.0.1 (int32 g.0.0) g.0.1 u.0 fits-f in
    let v = int16_spelled g.0.1 h.0.0 h.0.1 fits-g h.1 in
    let last = s.0 ∙ ap (λ (z : List ℕ). int32 d.0.0 ++ z) (t.0 ∙ ap (λ (z : List ℕ). int16 f.0.0 ++ z) (u.0 ∙ ap (λ (z : List ℕ). int32 g.0.0 ++ z) v.0)) in
    let nested = p.0 ∙ ap (λ (z : List ℕ). text a.0.0 ++ z) (q.0 ∙ ap (λ (z : List ℕ). int32 b.0.0 ++ z) (r.0 ∙ ap (λ (z : List ℕ). int16 c.0.0 ++ z) last)) in
    carry (λ (y : ColumnOf) (z : List ℕ). (bytes ≡ column y ++ z) × FitsColumn y)
    (record { name = a.0.0; table = b.0.0; number = c.0.0; type_oid = d.0.0; size = f.0.0; modifier = g.0.0; format = h.0.0 }, h.0.1) (x, rest) h.2 (
      nested ∙ sym (seven (text a.0.0) (int32 b.0.0) (int16 c.0.0) (int32 d.0.0) (int16 f.0.0) (int32 g.0.0) (int16 h.0.0) h.0.1),
      record { name = p.1; table = q.1; number = r.1; type_oid = s.1; size = t.1; modifier = u.1; format = v.1 },
    )
