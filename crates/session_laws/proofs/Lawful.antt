-- What holds of every session that began fresh: its tables, rows, texts and values are such that each
-- reply about them is a whole frame.
use Rattle.std.proofs.Common.{◌≡◌, ℕ, zero, suc, ◌+◌, ◌*◌, ◌/◌, ◌%◌, ◌≤◌, List, [], ◌∷◌, ◌++◌, length, Option, Some, None, refl, Bool, true, false, ◌==◌, arith, length-append}
use Rattle.std.specs.Prelude.{if◌then◌else◌}
use Rattle.std.specs.Fmt.{decimal, digits, digits_onto, digit_glyph}
use Rattle.std.specs.List.{AllByRecursion, flat_map}
use Rattle.frame_view.specs.declared.server.TheConstants.{PARAMETER_STATUS}
use Rattle.frame_view.specs.declared.frames.TheConstants.{MAX_FRAME}
use Rattle.frame_view.specs.Frames.{FrameOf}
use Rattle.message_view.specs.Bodies.{HasNoZero, value, values, int32, text_columns, text_column, column}
use Rattle.message_view.specs.Messages.{data_row, row_description, parameter_description, command_complete}
use Rattle.mini_sql.specs.Words.{Text}
use Rattle.session_values.specs.State.{State, TableOf, Row, SavedOf, PreparedOf, PortalOf, ProgressOf, NotRun, Remaining, Finished, CursorOf}
use Rattle.session_values.specs.Lawful.{IsShort, IsValue, IsLawfulTable}
use Rattle.session_values.proofs.Alls.{all-as}
use Rattle.session_laws.proofs.GoodValues.{AreSettings, AreReported}

-- ---- replies

-- a whole frame that is no ParameterStatus
abbrev pub IsPlain : FrameOf → Type 0
IsPlain f = (4 + length f.body ≤ MAX_FRAME) × ((f.kind == PARAMETER_STATUS) ≡ false)

-- a row that a DataRow has room for
abbrev pub IsSendable : Row → Type 0
IsSendable r = 4 + length (values r) ≤ MAX_FRAME

pub row-plain : (r : Row) → IsSendable r → IsPlain (data_row r)
row-plain r h = (h, refl)

-- ---- the state

abbrev pub IsRow : Row → Type 0
IsRow r = length r ≤ 64 × AllByRecursion IsValue r

pub record IsTable (t : TableOf) : Type 0 where
  pub width : length t.columns ≤ 64
  pub names : AllByRecursion (IsShort 63) t.columns
  pub rows : AllByRecursion IsRow t.rows

-- a text as it stands in a message
abbrev pub IsSource : Text → Type 0
IsSource t = HasNoZero t × length t ≤ 2147483642

abbrev pub AreLeft : ProgressOf → Type 0
AreLeft NotRun = Unit {0}
AreLeft (Remaining rows) = AllByRecursion IsSendable rows
AreLeft Finished = Unit {0}

pub record IsPrepared (p : PreparedOf) : Type 0 where
  pub source : IsSource p.query
  pub few : length p.oids ≤ 65535

pub record IsPortal (p : PortalOf) : Type 0 where
  pub source : IsSource p.query
  pub left : AreLeft p.progress

abbrev pub IsSaved : Option SavedOf → Type 0
IsSaved None = Unit {0}
IsSaved (Some c) = AreSettings c.values × AllByRecursion IsTable c.tables

abbrev pub AreColumns : Option (List Text) → Type 0
AreColumns None = Unit {0}
AreColumns (Some cs) = length cs ≤ 64 × AllByRecursion (IsShort 63) cs

pub record IsCursor (c : CursorOf) : Type 0 where
  pub columns : AreColumns (Some c.columns)
  pub left : AllByRecursion IsSendable c.rows

pub record Lawful (s : State) : Type 0 where
  pub defaults : AreSettings s.defaults
  pub current : AreSettings s.current
  pub reported : AreReported s.reported
  pub saved : IsSaved s.saved
  pub statements : AllByRecursion IsPrepared s.statements
  pub portals : AllByRecursion IsPortal s.portals
  pub lasting : AreSettings s.lasting
  pub cursors : AllByRecursion IsCursor s.cursors
  pub tables : AllByRecursion IsTable s.tables

pub lawful-table : (t : TableOf) → IsLawfulTable t → IsTable t
lawful-table t h = record { width = h.width; names = all-as _ (IsShort 63) (λ (c : Text) k. k.1) t.columns h.columns; rows = h.rows }

-- ---- lengths

cells-length : (r : Row) → AllByRecursion IsValue r → length (flat_map value r) ≤ length r * 1048580
cells-length [] h = omega arith
cells-length (None ∷ r) h = let ih = cells-length r h.1 in omega arith
cells-length (Some t ∷ r) h =
    let ih = cells-length r h.1 in
    let e = length-append (int32 (length t) ++ t) (flat_map value r) in
    let l : length t ≤ 1048576 = h.0 in
    omega arith

pub row-sendable : (r : Row) → IsRow r → IsSendable r
row-sendable r h = let l = cells-length r h.1 in let w : length r ≤ 64 = h.0 in omega arith

-- one value, as SHOW gives it
pub one-sendable : (t : Text) → length t ≤ 2147483637 → IsSendable (Some t ∷ [])
one-sendable t h = let e = length-append (int32 (length t) ++ t) [] in omega arith

column-length : (c : Text) (f : ℕ) → length (column (text_column c f)) ≡ length c + 19
column-length c f = omega (arith, length-append {A = ℕ})

columns-length : (cs : List Text) (fs : List ℕ) → AllByRecursion (IsShort 63) cs → length (flat_map column (text_columns cs fs)) ≤ length cs * 82
columns-length [] fs h = omega arith
columns-length (c ∷ cs) [] h = let ih = columns-length cs [] h.1 in let l : length c ≤ 63 = h.0 in omega (arith, column-length c 0, length-append (column (text_column c 0)) (flat_map column (text_columns cs [])))
columns-length (c ∷ cs) (f ∷ fs) h = let ih = columns-length cs fs h.1 in let l : length c ≤ 63 = h.0 in omega (arith, column-length c f, length-append (column (text_column c f)) (flat_map column (text_columns cs fs)))

pub columns-plain : (cs : List Text) (fs : List ℕ) → length cs ≤ 64 → AllByRecursion (IsShort 63) cs → IsPlain (row_description cs fs)
columns-plain cs fs w h = let l = columns-length cs fs h in (omega arith, refl)

oids-length : (ns : List ℕ) → length (flat_map int32 ns) ≡ 4 * length ns
oids-length [] = refl
oids-length (n ∷ ns) = let ih = oids-length ns in omega arith

pub oids-plain : (ns : List ℕ) → length ns ≤ 65535 → IsPlain (parameter_description ns)
oids-plain ns h = let l = oids-length ns in (omega arith, refl)

-- ---- tags

pub tag-plain : (t : Text) → length t ≤ 100 → IsPlain (command_complete t)
tag-plain t h = let e = length-append t (0 ∷ []) in (omega arith, refl)

either-length : (b : Bool) (xs ys : List ℕ) (m : ℕ) → length xs ≤ m → length ys ≤ m → length (if b then xs else ys) ≤ m
either-length true xs ys m h k = h
either-length false xs ys m h k = k

digits-length : (k : ℕ) (n : ℕ) (acc : List ℕ) → length (digits_onto k 10 false n acc) ≤ k + length acc
digits-length zero n acc = omega arith
digits-length (suc k) n acc =
    let ih = digits-length k (n / 10) (digit_glyph false (n % 10) ∷ acc) in
    either-length (n / 10 == 0) (digit_glyph false (n % 10) ∷ acc) (digits_onto k 10 false (n / 10) (digit_glyph false (n % 10) ∷ acc)) (suc k + length acc) (omega arith) (omega arith)

pub decimal-length : (n : ℕ) → length (decimal n) ≤ 64
unfolding digits
decimal-length n = let h = digits-length 64 n [] in omega arith
