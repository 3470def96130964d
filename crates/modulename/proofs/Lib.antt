pub mod Fronts
pub mod NameLemmas
pub mod NextLemmas
pub mod OrderLemmas
pub mod RunLemmas
pub mod GreatestLemmas
pub mod SpellingLemmas
pub mod StartLemmas
