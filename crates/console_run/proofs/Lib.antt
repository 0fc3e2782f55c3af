pub mod Passing
pub mod Replying
pub mod Reading
pub mod Going
pub mod Talking
