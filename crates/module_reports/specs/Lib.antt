pub mod listings
pub mod completions
pub mod descriptions
