-- What `restore`, `reload`, `save` and `forget` make of an environment, and what they answer.
pub mod Restores
pub mod Saves
pub mod Answers
pub mod forgetting
-- for this crate's own contracts alone
pub mod Views
