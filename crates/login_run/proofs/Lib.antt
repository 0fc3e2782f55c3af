pub mod Running
pub mod Turning
pub mod Allowing
