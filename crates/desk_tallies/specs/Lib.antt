pub mod Shares
pub use Rattle.link_desk.specs.Homes
pub use Rattle.link_desk.specs.Passes
pub use Rattle.link_desk.specs.Refusing
pub use Rattle.link_desk.specs.Grants
