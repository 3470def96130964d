-- What is reported of modules that aren't loaded for it.
pub mod Mentions
pub mod Written
pub mod Descriptions
pub mod Readable
pub mod Calls
pub mod Helps
-- for this crate's own contracts alone
pub mod Views
