pub mod Pauses
pub mod Hearing
pub mod Standing
pub mod Paced
