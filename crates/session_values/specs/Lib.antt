pub mod Parameters
pub mod Words
pub mod Errors
pub mod Named
pub mod State
pub mod Lookups
pub mod Runs
pub mod Extended
pub mod Step
pub mod Service
pub mod Picks
pub mod Lawful
pub mod Answers
pub use Rattle.message_view.specs.Left
pub use Rattle.message_view.specs.Views
pub use Rattle.mini_sql.specs.Words as MiniSqlWords
