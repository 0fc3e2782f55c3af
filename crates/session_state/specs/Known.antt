-- What a session knows beside its state, to leave work out.
use Rattle.std.specs.Prelude.{◌≡◌, List, [], Bool, true, false}
use Rattle.std.specs.List.{list_all}
use Rattle.mini_sql.specs.Words.{Text}
use Rattle.session_values.specs.Named.{is_other}
use Rattle.session_values.specs.Parameters.{Values}
use Rattle.session_values.specs.State.{PreparedOf, prepared_name, reported_of}

-- where it is known that they were reported, the last reported values are these
abbrev pub AreReportedIf : Bool → Values → List Text → Type 0
AreReportedIf true vs rs = reported_of vs ≡ rs
AreReportedIf false vs rs = Unit {0}

-- unless one of them may be the unnamed one, these statements have names
abbrev pub AreNamedUnless : Bool → List PreparedOf → Type 0
AreNamedUnless true ps = Unit {0}
AreNamedUnless false ps = list_all (is_other prepared_name []) ps ≡ true
