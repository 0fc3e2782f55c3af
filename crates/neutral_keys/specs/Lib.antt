pub mod ReadOver
