pub mod Running
pub mod LiteralWords
pub mod Conditions
pub mod Whole
pub mod PlaceLemmas
