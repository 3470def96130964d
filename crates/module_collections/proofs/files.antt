pub mod ChangeLemmas
pub mod EndLemmas
pub mod EntryLemmas
pub mod FoundLemmas
pub mod ListLemmas
pub mod PathLemmas
pub mod ReadLemmas
pub mod SaveLemmas
