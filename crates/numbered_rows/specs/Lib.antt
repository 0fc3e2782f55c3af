pub mod Places
pub mod Numbered
pub mod Indexes
pub mod RowNotes
