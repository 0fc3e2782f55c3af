pub mod StandingText
pub mod Replaying
mod Startable
