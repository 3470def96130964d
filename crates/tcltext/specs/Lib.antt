pub mod chars
pub mod script
pub mod expr
pub mod list
pub mod pattern
