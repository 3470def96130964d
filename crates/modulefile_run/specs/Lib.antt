pub mod Running
pub mod RecordAnswers
pub mod Journals
pub mod Questions
pub mod Batches
pub mod Hosting
pub mod Messages
pub mod Refusals
