pub mod Words
pub mod WordViews
pub mod Lines
pub mod Collections
pub mod Spelling
pub mod Views
pub mod Saved
