pub mod Examples
pub mod NumberLemmas
pub mod DivisionLemmas
pub mod RestLemmas
pub mod BitLemmas
