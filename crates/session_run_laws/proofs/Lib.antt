pub mod GoesOn
pub mod Running
pub mod Settling
pub mod ByName
pub mod Pieces
pub mod Service
pub mod Worked
pub mod Instance
pub use Rattle.session_laws.proofs.ByName as SessionsByName
