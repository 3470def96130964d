pub mod transient_failures
pub mod rehearsals
-- How the values and answers of the program show what the definitions in requests say.
pub mod MoveViews
pub mod Views
pub mod Answers
pub mod Spaced
pub mod Messages
pub mod Verdicts
pub mod Replies
pub mod Responses
-- for this crate's own contracts alone
pub mod Parts
