pub mod Ends
pub mod Serving
pub mod Moving
pub mod Failing
pub mod Whose
