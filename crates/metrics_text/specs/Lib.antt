pub mod Columns
pub mod Labels
pub mod Families
pub mod Metrics
pub mod Laws
pub mod Views
