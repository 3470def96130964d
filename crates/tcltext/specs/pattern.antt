-- for whoever calls: which texts match a pattern
pub mod Patterns
-- for this crate's own contracts alone: how `glob_match` looks for a match
pub mod Search
