pub mod Stages
pub mod Standing
pub mod Links
pub mod Starts
pub mod Futures
pub mod Leases
pub mod Dialogues
pub use Rattle.session_run_laws.specs.Laws
