pub mod Questions
pub mod StartReply
pub mod Starts
pub mod Closes
pub use Rattle.link_run.specs.Links
pub mod Refusing
