pub mod Pausing
pub mod Allowing
pub mod Pacing
