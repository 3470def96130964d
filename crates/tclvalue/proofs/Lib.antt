pub mod Examples
pub mod CharacterLemmas
pub mod SearchLemmas
pub mod IndexLemmas
pub mod LimitLemmas
pub mod CommandLemmas
pub mod GlobLemmas
pub mod MatchLemmas
