pub mod CatalogueCodes
pub mod Catalogues
pub mod FieldsLeft
pub mod Drafts
