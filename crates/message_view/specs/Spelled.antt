-- Which parts spell a body: texts without a zero byte, numbers and counts that fit their fields.
use Rattle.std.specs.Prelude.{ℕ, ◌^◌, ◌<◌, List, length, Option, Some, None}
use Rattle.std.specs.List.{AllByRecursion}
use Rattle.message_view.specs.Bodies.{Text, HasNoZero, ColumnOf, Parse, Bind, Target, OfStatement, OfPortal}

abbrev pub Fits16 : ℕ → Type 0
Fits16 n = n < 2 ^ 16

abbrev pub Fits32 : ℕ → Type 0
Fits32 n = n < 2 ^ 32

abbrev pub FitsValue : Option Text → Type 0
FitsValue None = Unit {0}
FitsValue (Some t) = length t < 2 ^ 31

-- a list with a count before it
pub record FitsList {A : Type 0} (FitsItem : A → Type 0) (xs : List A) : Type 0 where
  pub count : length xs < 2 ^ 16
  pub each : AllByRecursion FitsItem xs

pub record FitsColumn (c : ColumnOf) : Type 0 where
  pub name : HasNoZero c.name
  pub table : Fits32 c.table
  pub number : Fits16 c.number
  pub type_oid : Fits32 c.type_oid
  pub size : Fits16 c.size
  pub modifier : Fits32 c.modifier
  pub format : Fits16 c.format

pub record FitsParse (p : Parse) : Type 0 where
  pub name : HasNoZero p.name
  pub query : HasNoZero p.query
  pub oids : FitsList Fits32 p.oids

pub record FitsBind (b : Bind) : Type 0 where
  pub portal : HasNoZero b.portal
  pub statement : HasNoZero b.statement
  pub formats : FitsList Fits16 b.formats
  pub given : FitsList FitsValue b.given
  pub results : FitsList Fits16 b.results

abbrev pub FitsTarget : Target → Type 0
FitsTarget (OfStatement name) = HasNoZero name
FitsTarget (OfPortal name) = HasNoZero name

-- an empty name would end the pairs
pub record FitsPair (p : Text × Text) : Type 0 where
  pub some : 0 < length p.0
  pub name : HasNoZero p.0
  pub value : HasNoZero p.1

-- a code of zero would end the fields
pub record FitsField (f : ℕ × Text) : Type 0 where
  pub some : 0 < f.0
  pub text : HasNoZero f.1

abbrev pub FitsStatus : Text × Text → Type 0
FitsStatus x = HasNoZero x.0 × HasNoZero x.1

abbrev pub FitsExecute : Text × ℕ → Type 0
FitsExecute x = HasNoZero x.0 × Fits32 x.1

abbrev pub FitsKey : ℕ × ℕ → Type 0
FitsKey x = Fits32 x.0 × Fits32 x.1
