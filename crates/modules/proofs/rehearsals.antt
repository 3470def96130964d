pub mod RunLemmas
pub mod JudgmentLemmas
pub mod LawLemmas
pub mod CheckLemmas
pub mod Chain
pub mod TextLemmas
