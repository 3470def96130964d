pub mod Limits
pub mod ListTexts
pub mod Insides
pub mod Sums
pub mod Stopping
pub mod CommandWordLemmas
