pub mod Continuations
pub mod CommandTexts
pub mod Completions
-- for the contracts of private functions
pub mod Increments
