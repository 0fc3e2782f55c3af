-- The rows of settings.
use Rattle.std.proofs.Common.{◌≡◌, ℕ, ◌<◌, Bool, true, false, List, [], ◌∷◌, Option, Some, None, refl, ap, arith, zero, suc}
use Rattle.std.specs.Prelude.{not, cond, ◌&&◌, ◌||◌, ◌==◌, length, nat_le, option_map, bytes_eq}
use Rattle.std.specs.Option.{option_or}
use Rattle.std.specs.List.{AllByRecursion, list_any}
use Rattle.std.proofs.lemmas.Bool.{false≢true, true≢false}
use Rattle.message_view.specs.Bodies.{HasNoZero}
use Rattle.ini_config.specs.Bounds.{IsServedRow, IsUser}
use Rattle.ini_config.specs.DatabaseValues.{is_database}
use Rattle.ini_config.proofs.Bounds.{read_settings_are_within_bounds}
use Rattle.ini_config.specs.declared.database_rows.DbRow.{DbRow}
use Rattle.ini_config.specs.Tables.{longest_name, row_as, row_named, wildcard, wildcard_row}
use Rattle.session_values.proofs.Alls.{OfSome, all-find}
use Rattle.login_laws.specs.StartKeys.{IsLawfulName, IsLawfulRow, IsLawfulUser}
use Rattle.login_core.specs.Dialogue.{row_in}
use Rattle.login_laws.specs.Laws.{BoundedRowsAreLawful, SettingsRowsAreLawful, ReadRowsAreLawful}

abbrev IsRow : DbRow → Type 0
IsRow row = IsLawfulRow (Some row)

some-row : (o : Option DbRow) → OfSome IsRow o → IsLawfulRow o
some-row None h = tt
some-row (Some row) h = h

both : (a b : Bool) → (a && b) ≡ true → (a ≡ true) × (b ≡ true)
both true b e = (refl, e)
both false b e = absurd (false≢true e)

has_bytes : (name : List ℕ) → not (length name == 0) ≡ true → 0 < length name
has_bytes [] e = absurd (false≢true e)
has_bytes (c ∷ cs) e = omega (arith)

positive : (c : ℕ) → (c == 0) ≡ false → 0 < c
positive zero e = absurd (true≢false e)
positive (suc c) e = omega (arith)

no_zero : (name : List ℕ) → not (list_any (λ b. b == 0) name) ≡ true → HasNoZero name
no_zero [] e = tt
no_zero (c ∷ cs) e = go (c == 0) refl (list_any (λ b. b == 0) cs) refl e (no_zero cs)
  where
    go : (z : Bool) → (c == 0) ≡ z → (later : Bool) → list_any (λ b. b == 0) cs ≡ later → not (z || later) ≡ true → (not (list_any (λ b. b == 0) cs) ≡ true → HasNoZero cs) → HasNoZero (c ∷ cs)
    go true h later k e ih = absurd (false≢true e)
    go false h true k e ih = absurd (false≢true e)
    go false h false k e ih = (positive c h, ih (ap not k))

text-lawful : (name : List ℕ) → is_database name ≡ true → IsLawfulName name
text-lawful name e = let p = both (not (length name == 0)) (not (list_any (λ b. b == 0) name)) e in (has_bytes name p.0, no_zero name p.1)

user-lawful : (user : Option (List ℕ)) → IsUser user → IsLawfulUser user
user-lawful None h = tt
user-lawful (Some user) e = text-lawful user e

lawful-row : (row : DbRow) → IsServedRow row → IsRow row
lawful-row row h = record { dbname = text-lawful row.dbname h.database; user = user-lawful row.user h.user }

-- ---- the row that serves a database

named-lawful : (name : List ℕ) (rows : List DbRow) → AllByRecursion IsRow rows → IsLawfulRow (row_named name rows)
named-lawful name rows h = some-row (row_named name rows) (all-find IsRow (λ row. bytes_eq name row.name) rows h)

-- the database of `*` is the name that was asked for, or its own
as-lawful : (name : List ℕ) (row : DbRow) → is_database name ≡ true → IsRow row → IsRow (row_as name row)
as-lawful name row e h = go (bytes_eq row.dbname wildcard) (text-lawful name e)
  where
    go : (b : Bool) → IsLawfulName name → IsRow (record row { name = name; dbname = cond b name row.dbname })
    go true k = record { dbname = k; user = h.user }
    go false k = record { dbname = h.dbname; user = h.user }

wildcard-lawful : (name : List ℕ) (rows : List DbRow) → AllByRecursion IsRow rows → IsLawfulRow (wildcard_row name rows)
wildcard-lawful name rows h = go (is_database name && nat_le (length name) longest_name) refl (row_named wildcard rows) (named-lawful wildcard rows h)
  where
    go : (b : Bool) → (is_database name && nat_le (length name) longest_name) ≡ b → (o : Option DbRow) → IsLawfulRow o → IsLawfulRow (cond b (option_map (row_as name) o) None)
    go false e o k = tt
    go true e None k = tt
    go true e (Some row) k = as-lawful name row (both (is_database name) (nat_le (length name) longest_name) e).0 k

pub rows-lawful : SettingsRowsAreLawful
unfolding row_in
rows-lawful s users h database user = go (row_named database s.rows) (named-lawful database s.rows h)
  where
    go : (o : Option DbRow) → IsLawfulRow o → IsLawfulRow (option_or o (wildcard_row database s.rows))
    go None k = wildcard-lawful database s.rows h
    go (Some row) k = k

-- ---- rows of a file

all-lawful : (rows : List DbRow) → AllByRecursion IsServedRow rows → AllByRecursion IsRow rows
all-lawful [] h = tt
all-lawful (row ∷ rows) h = (lawful-row row h.0, all-lawful rows h.1)

pub bounded-rows-lawful : BoundedRowsAreLawful
bounded-rows-lawful s users b = rows-lawful s users (all-lawful s.rows b.rows)

pub read-rows-lawful : ReadRowsAreLawful
read-rows-lawful lines s users e = bounded-rows-lawful s users (read_settings_are_within_bounds lines s e)
