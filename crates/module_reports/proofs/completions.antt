pub mod LineLemmas
pub mod BegunLemmas
