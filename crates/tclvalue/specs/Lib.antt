pub mod operators
-- The definitions that the contracts of this crate are written in: the commands of values, by their pages.
pub mod Indexes
pub mod Searches
pub mod Characters
pub mod Limits
pub mod Globs
pub mod Commands
-- for private contracts of this crate alone
pub mod Growing
pub mod Views
