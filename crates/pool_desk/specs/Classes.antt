-- The book's decisions by class.
pub use Rattle.link_desk.specs.Counts.{class_counts}
