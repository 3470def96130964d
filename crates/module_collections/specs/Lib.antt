pub mod texts
pub mod files
