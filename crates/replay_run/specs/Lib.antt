pub mod Replay
pub mod Told
