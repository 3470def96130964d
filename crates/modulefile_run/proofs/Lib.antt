mod RefusedEdits
pub mod JournalLemmas
pub mod ListLemmas
pub mod ReplyLemmas
pub mod RunLemmas
pub mod ReasonLemmas
pub mod DraftLemmas
pub mod BatchLemmas
