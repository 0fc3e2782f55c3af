pub mod StartPairs
pub mod Places
pub mod StubKeys
pub mod Keys
pub mod SameKeys
pub use Rattle.session_values.specs.Lawful
pub use Rattle.session_values.specs.State
