-- The codes of the faults of a catalogue file.
use Rattle.std.specs.Prelude.{ℕ, List, codes}
use Rattle.session_catalogue.specs.declared.catalogue_fault.CatalogueCause.{CatalogueCause}
use Rattle.session_catalogue.specs.declared.catalogue_fault.CatalogueCause.TheVariants.{NotALine, NameTwice, WrongNumberOfValues, Memory}

abbrev pub code_of : CatalogueCause → List ℕ
code_of NotALine = codes "K1"
code_of NameTwice = codes "K2"
code_of WrongNumberOfValues = codes "K3"
code_of Memory = codes "K4"
