-- What `forget` makes of an environment, and what it answers.
pub mod Forgets
pub mod Looked
pub mod Answers
pub mod Said
pub mod Laws
-- for this crate's own contracts alone
pub mod Views
