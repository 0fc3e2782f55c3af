pub mod NoneMoved
pub use Rattle.link_model.proofs.Both
pub use Rattle.link_model.proofs.InSession
pub use Rattle.link_model.proofs.Splits
