pub mod Keys
pub use Rattle.start_keys.specs.StartPairs
pub use Rattle.start_keys.specs.StubKeys
