pub mod Putting
pub use Rattle.session_values.proofs.Alls
