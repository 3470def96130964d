-- What automated loads and unloads do, and what they answer.
pub mod Adding
pub mod Loads
pub mod Unloads
pub mod Answers
-- for this crate's own contracts alone
pub mod Views
pub mod Said
pub mod Refused
