pub mod ListLemmas
pub mod AnswerLemmas
pub mod SiteLemmas
