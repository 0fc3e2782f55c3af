pub mod Heads
pub mod Stepping
pub mod Telling
pub mod Pieces
pub mod Relaying
